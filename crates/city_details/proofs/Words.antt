-- A message and a cure are there, and not empty.
use Rattle.city_details.proofs.Prelude.{◌≡◌, ◌∷◌, ℕ, List, [], Data, Members, object, string, Some, codes, refl, ap}
use Rattle.city_details.proofs.Prelude.{arith, length, ◌+◌, ◌∙◌, get, get_member-put, get_member-put_apart}
use Rattle.city_details.specs.Why.{worded, words_or, told_message, told_cure, HasWords}

no_end : (x : ℕ) (xs : List ℕ) → x ∷ xs ≡ [] → ⊥
no_end x xs e = absurd (cc (e))

never_empty : (x : ℕ) (xs words : List ℕ) → words_or (x ∷ xs) words ≡ [] → ⊥
never_empty x xs [] e = no_end x xs e
never_empty x xs (y ∷ ys) e = no_end y ys e

pub message_there : (message : List ℕ) → told_message message ≡ [] → ⊥
message_there message e = never_empty _ _ message e

pub cure_there : (cure : List ℕ) → told_cure cure ≡ [] → ⊥
cure_there cure e = never_empty _ _ cure e

pub has_message : (message cure : List ℕ) (ms : Members)
    → HasWords (codes "message") (object (worded message cure ms))
has_message message cure ms =
    (told_message message, message_there message, simp (get_member-put, get_member-put_apart))

pub has_cure : (message cure : List ℕ) (ms : Members) → HasWords (codes "cure") (object (worded message cure ms))
has_cure message cure ms = (told_cure cure, cure_there cure, simp get_member-put)
