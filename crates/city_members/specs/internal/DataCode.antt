-- A code of JSON data: its tokens in prefix order; a stack reads it back from the right.
use Rattle.std.specs.Prelude.{◌≡◌, refl, ℕ, ℤ, pos, true, false, cond, ◌==◌, List, [], ◌∷◌, ◌++◌}
use Rattle.std.specs.Float.{Float, nan}
use Rattle.std.proofs.Common.{ap, sym, ◌∙◌}
use Rattle.std.proofs.lemmas.List.{append_assoc, append-nil}
use Rattle.std.specs.Coded.{Coded, code_by, coded×, coded_ℕ, coded_ℤ, coded_list}
use base.Stored.{coded_float}
use Rattle.serde_json.specs.Data.{unsigned, negative, float, Data, null, boolean, number, string, array}
use Rattle.serde_json.specs.Data.{object, Items, no_items, item, Members, no_members, member}

-- a token: its kind and its values
abbrev pub Token : Type 0
Token = ℕ × (ℕ × (List ℕ × (ℤ × Float)))

abbrev pub token : ℕ → Token
token kind = (kind, (0, ([], (pos 0, nan))))

abbrev mutual
  pub tokens_of : Data → List Token
  tokens_of null = token 0 ∷ []
  tokens_of (boolean true) = token 1 ∷ []
  tokens_of (boolean false) = token 2 ∷ []
  tokens_of (number (unsigned n)) = (3, (n, ([], (pos 0, nan)))) ∷ []
  tokens_of (number (negative z)) = (4, (0, ([], (z, nan)))) ∷ []
  tokens_of (number (float x)) = (5, (0, ([], (pos 0, x)))) ∷ []
  tokens_of (string s) = (6, (0, (s, (pos 0, nan)))) ∷ []
  tokens_of (array ds) = token 7 ∷ items_tokens ds
  tokens_of (object ms) = token 8 ∷ members_tokens ms

  pub items_tokens : Items → List Token
  items_tokens no_items = token 9 ∷ []
  items_tokens (item d ds) = token 10 ∷ (tokens_of d ++ items_tokens ds)

  pub members_tokens : Members → List Token
  members_tokens no_members = token 11 ∷ []
  members_tokens (member k d ms) = (12, (0, (k, (pos 0, nan)))) ∷ (tokens_of d ++ members_tokens ms)

-- a node of the stack
pub data Node : Type 0 where
  D : Data → Node
  I : Items → Node
  M : Members → Node

abbrev pub push_array : List Node → List Node
push_array (I ds ∷ st) = D (array ds) ∷ st
push_array _ = []

abbrev pub push_object : List Node → List Node
push_object (M ms ∷ st) = D (object ms) ∷ st
push_object _ = []

abbrev pub push_item : List Node → List Node
push_item (D d ∷ (I ds ∷ st)) = I (item d ds) ∷ st
push_item _ = []

abbrev pub push_member : List ℕ → List Node → List Node
push_member k (D d ∷ (M ms ∷ st)) = M (member k d ms) ∷ st
push_member k _ = []

abbrev pub step : Token → List Node → List Node
step t st =
    cond (t.0 == 0) (D null ∷ st)
    (cond (t.0 == 1) (D (boolean true) ∷ st)
    (cond (t.0 == 2) (D (boolean false) ∷ st)
    (cond (t.0 == 3) (D (number (unsigned t.1.0)) ∷ st)
    (cond (t.0 == 4) (D (number (negative t.1.1.1.0)) ∷ st)
    (cond (t.0 == 5) (D (number (float t.1.1.1.1)) ∷ st)
    (cond (t.0 == 6) (D (string t.1.1.0) ∷ st)
    (cond (t.0 == 7) (push_array st)
    (cond (t.0 == 8) (push_object st)
    (cond (t.0 == 9) (I no_items ∷ st)
    (cond (t.0 == 10) (push_item st)
    (cond (t.0 == 11) (M no_members ∷ st) (push_member t.1.1.0 st))))))))))))

abbrev pub stack_of : List Token → List Node
stack_of [] = []
stack_of (t ∷ ts) = step t (stack_of ts)

mutual
  read_data : (d : Data) (ts : List Token) → stack_of (tokens_of d ++ ts) ≡ D d ∷ stack_of ts
  read_data null ts = refl
  read_data (boolean true) ts = refl
  read_data (boolean false) ts = refl
  read_data (number (unsigned n)) ts = refl
  read_data (number (negative z)) ts = refl
  read_data (number (float x)) ts = refl
  read_data (string s) ts = refl
  read_data (array ds) ts = ap push_array (read_items ds ts)
  read_data (object ms) ts = ap push_object (read_members ms ts)

  read_items : (ds : Items) (ts : List Token) → stack_of (items_tokens ds ++ ts) ≡ I ds ∷ stack_of ts
  read_items no_items ts = refl
  read_items (item d ds) ts =
      ap (λ us. push_item (stack_of us)) (append_assoc (tokens_of d) (items_tokens ds) ts)
      ∙ ap push_item (read_data d (items_tokens ds ++ ts) ∙ ap (λ st. D d ∷ st) (read_items ds ts))

  read_members : (ms : Members) (ts : List Token) → stack_of (members_tokens ms ++ ts) ≡ M ms ∷ stack_of ts
  read_members no_members ts = refl
  read_members (member k d ms) ts =
      ap (λ us. push_member k (stack_of us)) (append_assoc (tokens_of d) (members_tokens ms) ts)
      ∙ ap (push_member k) (read_data d (members_tokens ms ++ ts) ∙ ap (λ st. D d ∷ st) (read_members ms ts))

abbrev pub top_members : List Node → Members
top_members (M ms ∷ st) = ms
top_members _ = no_members

pub members_back : (ms : Members) → top_members (stack_of (members_tokens ms)) ≡ ms
members_back ms =
    ap (λ ts. top_members (stack_of ts)) (sym (append-nil (members_tokens ms)))
    ∙ ap top_members (read_members ms [])

abbrev pub top_items : List Node → Items
top_items (I ds ∷ st) = ds
top_items _ = no_items

pub items_back : (ds : Items) → top_items (stack_of (items_tokens ds)) ≡ ds
items_back ds =
    ap (λ ts. top_items (stack_of ts)) (sym (append-nil (items_tokens ds)))
    ∙ ap top_items (read_items ds [])

abbrev pub coded_token : Coded Token
coded_token = coded× coded_ℕ (coded× coded_ℕ (coded× (coded_list coded_ℕ) (coded× coded_ℤ coded_float)))

-- members are stored as their tokens
abbrev pub coded_members : Coded Members
coded_members =
    code_by (List Token) (coded_list coded_token) members_tokens
    (λ ts. top_members (stack_of ts)) members_back

-- and so are items
abbrev pub coded_items : Coded Items
coded_items =
    code_by (List Token) (coded_list coded_token) items_tokens
    (λ ts. top_items (stack_of ts)) items_back
