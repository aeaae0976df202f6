-- Commands and scripts written part by part.
use Rattle.city_writer.proofs.Prelude.{◌≡◌, List, [], ◌∷◌, ◌++◌, ℕ, Option, Some, None, refl, sym, ap, ◌∙◌}
use Rattle.city_writer.proofs.Prelude.{append_assoc, Less, nat_cmp, slice_cmp, rules, Token, begin_object}
use Rattle.city_writer.proofs.Prelude.{end_object, key, Data, string, object, Members, no_members, AreOrdered, Point}
use Rattle.city_writer.proofs.Prelude.{list_data, listed, tokens_of, tokens_of_members, tokens_of_own, vertex_data}
use Rattle.city_writer.proofs.Prelude.{ReadsBack, MembersReadBack}
use Rattle.std.proofs.Common.{codes}
use Rattle.city_model.specs.Runs.{Scripted}
use Rattle.city_writer.specs.internal.tree.OwnMembers.{Own}
use Rattle.city_writer.specs.internal.tree.ReadsBack.{OwnReadsBack}
use Rattle.city_writer.specs.script.Canonical.{numbered_script}
use Rattle.city_writer.specs.script.Commands.{command_data, one_member, two_members}
use Rattle.city_writer.proofs.tree.Among.{puts, put_if, string_reads}
use Rattle.city_writer.proofs.document.OwnMembers.{put_listed}
use Rattle.city_writer.proofs.document.PutMembers.{IsPut, put_written, put_reads}

-- ---- objects of kept members alone

kept_put : (ms : Members) → AreOrdered ms → IsPut ms [] (object ms)
kept_put ms ordered = record { is = refl; ordered = ordered; apart = tt }

pub kept_written : (old : List Token) (ms : Members) → AreOrdered ms
    → (old ++ begin_object ∷ []) ++ (tokens_of_members ms ++ end_object ∷ []) ≡ old ++ tokens_of (object ms)
kept_written old ms ordered = put_written 0 old (kept_put ms ordered)

pub kept_read : (ms : Members) → AreOrdered ms → MembersReadBack ms → ReadsBack (object ms)
kept_read ms ordered reads = put_reads (kept_put ms ordered) reads tt

-- ---- commands

module _ (name : List ℕ) (d : Data) where
  one_put : IsPut no_members ((name, Some d) ∷ []) (one_member name d)
  one_put = record { is = refl; ordered = tt; apart = (refl, tt, tt) }

  pub one_written : (old : List Token)
      → (((old ++ begin_object ∷ []) ++ key name ∷ []) ++ tokens_of d) ++ end_object ∷ []
      ≡ old ++ tokens_of (one_member name d)
  one_written old = put_written 0 old one_put

  pub one_read : ReadsBack d → ReadsBack (one_member name d)
  one_read h = put_reads one_put tt (h, tt)

module _ (name : List ℕ) (d : Data) (other : List ℕ) (e : Data) (less : slice_cmp nat_cmp name other ≡ Less) where
  two_put : IsPut no_members ((name, Some d) ∷ (other, Some e) ∷ []) (two_members name d other e)
  two_put = record { is = refl; ordered = tt; apart = (refl, (less, tt), (refl, tt, tt)) }

  pub two_written : (old : List Token)
      → (((((old ++ begin_object ∷ []) ++ key name ∷ []) ++ tokens_of d) ++ key other ∷ []) ++ tokens_of e)
      ++ end_object ∷ [] ≡ old ++ tokens_of (two_members name d other e)
  two_written old = put_written 0 old two_put

  pub two_read : ReadsBack d → ReadsBack e → ReadsBack (two_members name d other e)
  two_read h k = put_reads two_put tt (h, (k, tt))

-- ---- scripts

module _ (pool : List Point) (s : Scripted) where
  abbrev commands : Data
  commands = list_data (command_data pool) s.1

  abbrev named : Own
  named = (codes "commands", Some commands) ∷ (codes "name", Some (string s.0)) ∷ []

  abbrev own : Option Data → Own
  own o = (codes "commands", Some commands) ∷ (codes "name", Some (string s.0)) ∷ (codes "vertices", o) ∷ []

  script_put : (o : Option Data) → listed vertex_data pool ≡ o → IsPut no_members (own o) (numbered_script pool s)
  script_put o is = record {
    is = ap (λ ms. object (puts named ms)) (put_listed (codes "vertices") vertex_data pool no_members)
        ∙ ap (λ o. object (puts named (put_if (codes "vertices") o no_members))) is;
    ordered = tt;
    apart = search rules;
  }

  -- the tokens before the vertices
  abbrev front : List Token → List Token
  front old =
      ((((old ++ begin_object ∷ []) ++ key (codes "commands") ∷ []) ++ tokens_of commands) ++ key (codes "name") ∷ [])
      ++ tokens_of (string s.0)

  with_vertices : (o : Option Data) (old : List Token) → listed vertex_data pool ≡ o
      → (front old ++ tokens_of_own (codes "vertices") o) ++ end_object ∷ []
      ≡ old ++ tokens_of (numbered_script pool s)
  with_vertices None old is = put_written 0 old (script_put None is)
  with_vertices (Some d) old is =
      ap (λ ts. ts ++ end_object ∷ []) (sym (append_assoc (front old) (key (codes "vertices") ∷ []) (tokens_of d)))
      ∙ put_written 0 old (script_put (Some d) is)

  pub script_written : (old : List Token)
      → (front old ++ tokens_of_own (codes "vertices") (listed vertex_data pool)) ++ end_object ∷ []
      ≡ old ++ tokens_of (numbered_script pool s)
  script_written old = with_vertices (listed vertex_data pool) old refl

  pub script_read : ReadsBack commands → OwnReadsBack (listed vertex_data pool) → ReadsBack (numbered_script pool s)
  script_read h k = put_reads (script_put (listed vertex_data pool) refl) tt (h, (string_reads _, (k, tt)))
