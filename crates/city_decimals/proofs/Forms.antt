-- The tokens of a form are its tokens before the value, the value's, and its tokens after the value.
use Rattle.city_decimals.proofs.Prelude.{arith, ◌≡◌, ◌++◌, append-nil, Json, json_tokens, in_form, tokens_after, Form}
use Rattle.city_decimals.specs.internal.Forms.{tokens_before}

pub around : (w : Form) (j : Json) → tokens_before w ++ (json_tokens j ++ tokens_after w) ≡ json_tokens (in_form w j)
around w j = search (arith, append-nil)
