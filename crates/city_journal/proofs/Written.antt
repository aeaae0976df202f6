-- Texts as the writer of JSON has them.
use Rattle.std.proofs.Common.{◌≡◌, ◌∷◌, [], ℕ, List, append-nil}
use Rattle.json.specs.Print.{print, print_from, quoted}
use Rattle.json.specs.Token.{string}

pub print_string : (s : List ℕ) → print (string s ∷ []) ≡ quoted s
unfolding print_from
print_string s = append-nil (quoted s)
