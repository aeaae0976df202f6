use Rattle.city_txn.proofs.Prelude.{arith, rules, ◌≡◌, ℕ, List, refl, Some, true, false, same_id, same_id_itself}
use Rattle.city_txn.proofs.Prelude.{object_at, image_at, unwrap_or, Became}
use Rattle.std.proofs.Common.{is_none}
use Rattle.city_model.specs.CityMap.{changed}
use Rattle.city_txn.specs.Placeholder.{placeholder}
use Rattle.city_txn.specs.internal.Images.{first_image}
use Rattle.city_txn.proofs.FirstWrites.{placed, none_placed, kept_over}
use Rattle.city_txn.proofs.transactions.Transactions.place.Goals.{After-written-image}
use Rattle.city_txn.proofs.transactions.Transactions.place.Goals as goal

pub keep_image-requires : goal.keep_image-requires
keep_image-requires c =
    let key = c.in_ok-key.ensures in let after = c.in_ok-before.ensures.after c.in_ok-key.key in
    let at = same_id_itself c.args.id.now in grind arith

set : (c : After-written-image) → (q : List ℕ) → object_at c.put.new.city.1 q
    ≡ changed (object_at c.args.city.now.1) c.args.id.now (Some (unwrap_or c.args.object placeholder)) q
set c q =
    let after = c.in_ok-before.ensures.after q in let object = c.object_or_placeholder-object.ensures in grind arith

image : (c : After-written-image) → c.written-image.result
    ≡ first_image c.args.stamp (object_at c.args.city.now.1 c.args.id.now) (is_none c.args.object)
image c =
    let made = c.written-image.ensures in let before = c.in_ok-before.ensures.old in
    let deleted = c.is_none-deleted.ensures in grind arith

pub returns-in_err-old-clause-became : goal.returns-in_err-old-clause-became
returns-in_err-old-clause-became c =
    let at = (goal.at.returns-in_err-old-clause-became c).After-written-image in
    none_placed (same_id c.args.id.now) (search rules) (placed c.args.stamp c.args.id.now c.args.object false
    c.put.new.city c.in_ok-key.key c.args.id.now c.in_ok-key.ensures refl c.in_ok-before.ensures.frame (set at)
    c.written-image.result (image at) c.in_err-old.ensures.frame c.in_err-old.ensures.objects
    c.in_err-old.ensures.images
    c.keep_image.ensures.ordered)

pub returns-in-Some-clause-became : goal.returns-in-Some-clause-became
returns-in-Some-clause-became c =
    let at = (goal.at.returns-in-Some-clause-became c).After-written-image in
    let was : image_at c.args.self.now.images c.args.id.now ≡ Some c.in-Some.old =
    let key = c.in_ok-key.ensures in let old = c.in_ok-old.ensures.old in let is = c.in-Some.is in grind arith in
    let first : Became (same_id c.args.id.now) (λ q. Some (unwrap_or c.args.object placeholder))
    (λ q. Some (first_image c.args.stamp (object_at c.args.city.now.1 c.args.id.now) (is_none c.args.object)))
    c.args.city.now c.keep_image.new.city c.args.self.now.images c.keep_image.new.self.images =
    placed c.args.stamp c.args.id.now c.args.object true c.put.new.city c.in_ok-key.key c.args.id.now
    c.in_ok-key.ensures refl c.in_ok-before.ensures.frame (set at) c.written-image.result (image at)
    c.in_ok-old.ensures.frame c.in_ok-old.ensures.objects c.in_ok-old.ensures.images c.keep_image.ensures.ordered in
    kept_over c.args.stamp c.args.id.now c.args.object c.in-Some.old was first c.keep_before.ensures.images
    c.keep_before.ensures.ordered
