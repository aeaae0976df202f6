-- Parts written one after another.
use Rattle.city_lines.proofs.Prelude.{◌≡◌, ◌++◌, ◌∙◌, List, append_assoc, on_ok_weaker, OnOk, Result}

-- what follows from the success of a call
pub on_ok : {T E P Q : Type 0} (r : Result T E) → OnOk r P → (P → Q) → OnOk r Q
on_ok r h f = on_ok_weaker r f h

module _ {A : Type 0} where
  pub of_three : (o a b c : List A) → ((o ++ a) ++ b) ++ c ≡ o ++ (a ++ (b ++ c))
  of_three o a b c = append_assoc (o ++ a) b c ∙ append_assoc o a (b ++ c)

  pub of_four : (o a b c d : List A) → (((o ++ a) ++ b) ++ c) ++ d ≡ o ++ (a ++ (b ++ (c ++ d)))
  of_four o a b c d =
      append_assoc ((o ++ a) ++ b) c d ∙ append_assoc (o ++ a) b (c ++ d) ∙ append_assoc o a (b ++ (c ++ d))

  pub of_six : (o a b c d e f : List A)
      → (((((o ++ a) ++ b) ++ c) ++ d) ++ e) ++ f ≡ o ++ (a ++ (b ++ (c ++ (d ++ (e ++ f)))))
  of_six o a b c d e f =
      of_four ((o ++ a) ++ b) c d e f ∙ append_assoc (o ++ a) b (c ++ (d ++ (e ++ f)))
      ∙ append_assoc o a (b ++ (c ++ (d ++ (e ++ f))))

  pub of_eight : (o a b c d e f g h : List A)
      → (((((((o ++ a) ++ b) ++ c) ++ d) ++ e) ++ f) ++ g) ++ h
      ≡ o ++ (a ++ (b ++ (c ++ (d ++ (e ++ (f ++ (g ++ h)))))))
  of_eight o a b c d e f g h =
      of_six ((o ++ a) ++ b) c d e f g h ∙ append_assoc (o ++ a) b (c ++ (d ++ (e ++ (f ++ (g ++ h)))))
      ∙ append_assoc o a (b ++ (c ++ (d ++ (e ++ (f ++ (g ++ h))))))

  pub of_nine : (o a b c d e f g h i : List A)
      → ((((((((o ++ a) ++ b) ++ c) ++ d) ++ e) ++ f) ++ g) ++ h) ++ i
      ≡ o ++ (a ++ (b ++ (c ++ (d ++ (e ++ (f ++ (g ++ (h ++ i))))))))
  of_nine o a b c d e f g h i =
      of_eight (o ++ a) b c d e f g h i ∙ append_assoc o a (b ++ (c ++ (d ++ (e ++ (f ++ (g ++ (h ++ i)))))))
