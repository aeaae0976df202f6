-- Known bytes, read or written part by part.
use Rattle.city_serve.proofs.Prelude.{◌≡◌, ◌≤◌, ◌+◌, ◌-◌, ℕ, List, ◌++◌, length, take, drop, Option, Some, None, IfSome}
use Rattle.city_serve.proofs.Prelude.{refl, sym, ap, subst, ◌∙◌, append_assoc, append-nil, arith, length-drop, length-take}
use Rattle.city_serve.proofs.Prelude.{take_all, Appends, Consumes, Keeps, AppendsSome}
use Rattle.std.proofs.Common.{length-append}
use Rattle.std.proofs.lemmas.List.{take-append-drop, take-append-le}
use Rattle.std.specs.Io.KnownBytes.{IsAtEnd}
use Rattle.city_serve.specs.ServedTexts.{LosesAtMost}

-- ---- writing

pub keeps_same : (u : Option (List ℕ)) → Keeps u u
keeps_same None = tt
keeps_same (Some xs) = refl

pub appends_then_keeps : (u v w : Option (List ℕ)) (a : List ℕ) → Appends u v a → Keeps v w → Appends u w a
appends_then_keeps None v w a h k = tt
appends_then_keeps (Some xs) None w a h k = absurd h
appends_then_keeps (Some xs) (Some ys) None a h k = k
appends_then_keeps (Some xs) (Some ys) (Some zs) a h k = k ∙ h

pub appends_more : (u v w : Option (List ℕ)) (a b : List ℕ) → Appends u v a → Appends v w b → Appends u w (a ++ b)
appends_more None v w a b h k = tt
appends_more (Some xs) None w a b h k = absurd h
appends_more (Some xs) (Some ys) None a b h k = k
appends_more (Some xs) (Some ys) (Some zs) a b h k = k ∙ ap (λ t. t ++ b) h ∙ append_assoc xs a b

-- the bytes written so far are the first of them
pub some_appended : (u v : Option (List ℕ)) (done rest bytes : List ℕ) → done ++ rest ≡ bytes → Appends u v done
    → AppendsSome u v bytes
some_appended u v done rest bytes all h =
    let first : take (length done) bytes ≡ done = ap (take (length done)) (sym all)
    ∙ take-append-le (length done) done rest (omega arith) ∙ take_all (length done) done (omega arith) in
    (length done, subst (Appends u v) (sym first) h)

cut_off : (n : ℕ) (xs : List ℕ) → take (length xs - n) (drop n xs) ≡ drop n xs
cut_off n xs = take_all (length xs - n) (drop n xs) (omega (arith, length-drop n xs))

-- the bytes written, and the rest once n more are
pub more_written : (done rest bytes : List ℕ) (n : ℕ) → done ++ rest ≡ bytes
    → (done ++ take n rest) ++ take (length rest - n) (drop n rest) ≡ bytes
more_written done rest bytes n all =
    ap (λ t. (done ++ take n rest) ++ t) (cut_off n rest) ∙ append_assoc done (take n rest) (drop n rest)
    ∙ ap (λ t. done ++ t) (take-append-drop n rest) ∙ all

-- ---- reading

pub consumes_then_keeps : (u v w : Option (List ℕ)) (a : List ℕ) → Consumes u v a → Keeps v w → Consumes u w a
consumes_then_keeps None v w a h k = tt
consumes_then_keeps (Some xs) None w a h k = absurd h
consumes_then_keeps (Some xs) (Some ys) None a h k = absurd k
consumes_then_keeps (Some xs) (Some ys) (Some zs) a h k = h ∙ ap (λ t. a ++ t) (sym k)

consumes_more : (u v w : Option (List ℕ)) (a b : List ℕ) → Consumes u v a → Consumes v w b → Consumes u w (a ++ b)
consumes_more None v w a b h k = tt
consumes_more (Some xs) None w a b h k = absurd h
consumes_more (Some xs) (Some ys) None a b h k = k
consumes_more (Some xs) (Some ys) (Some zs) a b h k = h ∙ ap (λ t. a ++ t) k ∙ sym (append_assoc a b zs)

-- everything there was read, and it was no more than the most
pub all_read : (u v : Option (List ℕ)) (items : List ℕ) (most : ℕ) → Consumes u v items → IsAtEnd v
    → length items ≤ most → IfSome u (λ all. items ≡ take most all)
all_read None v items most h end within = tt
all_read (Some xs) None items most h end within = absurd h
all_read (Some xs) (Some ys) items most h end within =
    let whole : xs ≡ items = h ∙ ap (λ t. items ++ t) end ∙ append-nil items in
    sym (ap (take most) whole ∙ take_all most items within)

-- the most was read
pub most_read : (u v : Option (List ℕ)) (items : List ℕ) (most : ℕ) → Consumes u v items → length items ≡ most
    → IfSome u (λ all. items ≡ take most all)
most_read None v items most h full = tt
most_read (Some xs) None items most h full = absurd h
most_read (Some xs) (Some ys) items most h full =
    sym (ap (take most) h ∙ take-append-le most items ys (omega (arith, full))
    ∙ take_all most items (omega (arith, full)))

-- a read at the end gave nothing more
pub end_read : (u v w : Option (List ℕ)) (items chunk : List ℕ) (n most : ℕ) → Consumes u v items
    → Consumes v w (take n chunk) → n ≡ 0 → IsAtEnd w → length items ≤ most
    → IfSome u (λ all. items ≡ take most all)
end_read u v w items chunk n most h k none end within =
    let nothing : items ++ take n chunk ≡ items = ap (λ m. items ++ take m chunk) none ∙ append-nil items in
    all_read u w items most (subst (Consumes u w) nothing (consumes_more u v w items (take n chunk) h k)) end within

-- a read took no more than was still wanted
pub loses_more : (u v w : Option (List ℕ)) (items chunk : List ℕ) (n most : ℕ) → Consumes u v items
    → Consumes v w (take n chunk) → length items + n ≤ most → LosesAtMost most u w
loses_more u v w items chunk n most h k within = (
  items ++ take n chunk,
  consumes_more u v w items (take n chunk) h k,
  omega (arith, length-append items (take n chunk), length-take n chunk),
)
