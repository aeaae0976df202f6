use Rattle.city_lines.proofs.Prelude.{[], ◌∷◌, ◌++◌, ◌≡◌, refl, rules, subst, sym, option_map, codes, print}
use Rattle.city_lines.proofs.Prelude.{begin_object, key, hand_tokens, IsBegun}
use Rattle.city_lines.proofs.Begun.{begun_plainly, begun_with}
use Rattle.city_lines.proofs.front.begun.Goals as goal

pub returns-in-None : goal.returns-in-None
returns-in-None c =
    let hand = option_map (λ h. h.now) c.args.hand in
    let out = c.write_hand.new.out in
    let before : out.before ≡ c.args.bytes.items = search rules in
    let tokens : out.tokens ≡ begin_object ∷ hand_tokens hand = search rules in
    subst (λ id. IsBegun c.args.bytes.items hand id out) (sym c.in-None.is)
    (begun_plainly c.args.bytes.items hand out before tokens)

pub returns-in_ok-next-in-Some : goal.returns-in_ok-next-in-Some
returns-in_ok-next-in-Some c =
    let hand = option_map (λ h. h.now) c.args.hand in
    let bytes = c.args.bytes.items in
    let out = c.write_hand.new.out in
    let next = c.in_ok-next-in-Some.next in
    let before : out.before ≡ bytes = search rules in
    let tokens : out.tokens ≡ begin_object ∷ hand_tokens hand = search rules in
    let behind : next.before ≡ (bytes ++ print (begin_object ∷ (hand_tokens hand ++ key (codes "id") ∷ [])))
    ++ (c.in-Some.tag ++ 44 ∷ []) =
    rw (c.in_ok-next-in-Some.ensures.before, before, tokens, c.as_str.ensures) refl in
    subst (λ id. IsBegun bytes hand id next) (sym c.in-Some.is)
    (begun_with bytes hand c.in-Some.tag next behind c.in_ok-next-in-Some.ensures.tokens)
