-- The beginnings of lines.
use Rattle.city_lines.proofs.Prelude.{List, None, Option, Some, [], ap, append_assoc, refl, ℕ, ◌++◌, ◌∙◌, ◌∷◌, ◌≡◌}
use Rattle.city_lines.proofs.Prelude.{codes, print, Token, begin_object, end_object, key, Written, hand_tokens}
use Rattle.city_lines.proofs.Prelude.{line_front, line_text, IsBegun}

-- without an `id`
pub begun_plainly : (bytes : List ℕ) (hand : Option (List ℕ)) (out : Written) → out.before ≡ bytes
    → out.tokens ≡ begin_object ∷ hand_tokens hand → IsBegun bytes hand None out
begun_plainly bytes hand out before tokens ts = rw (before, tokens) refl

-- with this `id`
pub begun_with : (bytes : List ℕ) (hand : Option (List ℕ)) (id : List ℕ) (out : Written)
    → out.before ≡ (bytes ++ print (begin_object ∷ (hand_tokens hand ++ key (codes "id") ∷ []))) ++ (id ++ 44 ∷ [])
    → out.tokens ≡ [] → IsBegun bytes hand (Some id) out
begun_with bytes hand id out before tokens ts =
    let front = print (begin_object ∷ (hand_tokens hand ++ key (codes "id") ∷ [])) in
    rw (before, tokens)
    (append_assoc (bytes ++ front) (id ++ 44 ∷ []) (print ts) ∙ append_assoc bytes front ((id ++ 44 ∷ []) ++ print ts)
    ∙ ap (λ t. bytes ++ (front ++ t)) (append_assoc id (44 ∷ []) (print ts)))

-- the tokens that a writer has gained
pub front_more : (bytes : List ℕ) (hand id : Option (List ℕ)) (first last : Written) (gained ts : List Token)
    → IsBegun bytes hand id first → last.before ≡ first.before → last.tokens ≡ first.tokens ++ gained
    → last.before ++ print (last.tokens ++ ts) ≡ bytes ++ line_front hand id (gained ++ ts)
front_more bytes hand id first last gained ts begun before tokens =
    rw (before, tokens)
    (ap (λ all. first.before ++ print all) (append_assoc first.tokens gained ts) ∙ begun (gained ++ ts))

-- the members that a writer has gained, and the end
pub line_ended : (bytes : List ℕ) (hand id : Option (List ℕ)) (first last : Written) (members : List Token)
    → IsBegun bytes hand id first → last.before ≡ first.before → last.tokens ≡ first.tokens ++ members
    → (last.before ++ print (last.tokens ++ end_object ∷ [])) ++ 10 ∷ [] ≡ bytes ++ line_text hand id members
line_ended bytes hand id first last members begun before tokens =
    let ended = end_object ∷ [] in
    ap (λ t. t ++ 10 ∷ []) (front_more bytes hand id first last members ended begun before tokens)
    ∙ append_assoc bytes (line_front hand id (members ++ ended)) (10 ∷ [])
