use Rattle.city_writer.proofs.Prelude.{◌≡◌, List, [], ◌∷◌, length, Some, refl, arith, append_assoc, Data, list_data}
use Rattle.city_writer.proofs.Prelude.{listed, with_points}
use Rattle.city_writer.proofs.document.PutMembers.{on_ok}
use Rattle.city_writer.proofs.object.text.write_list.Goals as goal

listed_some : {A : Type 0} (f : A → Data) (xs : List A) → (length xs ≡ 0 → ⊥) → listed f xs ≡ Some (list_data f xs)
listed_some f [] some = absurd (some refl)
listed_some f (x ∷ xs) some = refl

pub returns-clause-tokens : goal.returns-clause-tokens
returns-clause-tokens g c =
    on_ok c.write.result c.write.ensures.tokens (λ each later.
    let written = g.T.Written.written (with_points c.write.new.pool later) in
    let some = listed_some written c.args.list.now (λ e. omega (arith, c.if-len-eq0.false, c.len.ensures, e)) in
    rw (some, each later, c.in_ok-key.ensures.ok, c.in_ok-write_before.ensures.tokens) (simp append_assoc))
