-- Members of ascending names, found by their names.
use Rattle.city_doc.proofs.Prelude.{◌≡◌, ℕ, List, Some, Less, Equal, nat_cmp, is_eq, ap, arith}
use Rattle.city_doc.proofs.Prelude.{slice_cmp, nat_list_cmp_total, Data, Members, no_members, member, get_member}
use Rattle.city_doc.proofs.Prelude.{AllAbove, same_id_true}
use Rattle.std.proofs.lemmas.Cmp.{tied_itself}

pub here : (k : List ℕ) (d : Data) (ms : Members) → get_member k (member k d ms) ≡ Some d
here k d ms = rw (tied_itself nat_list_cmp_total k)

same_key : (j k : List ℕ) → slice_cmp nat_cmp j k ≡ Equal → j ≡ k
same_key j k e = same_id_true j k (ap is_eq e)

pub found_above : (k j : List ℕ) (ms : Members) (e : Data) → AllAbove k ms → get_member j ms ≡ Some e
    → slice_cmp nat_cmp k j ≡ Less
found_above k j no_members e h is = grind arith
found_above k j (member l d ms) e h is = let rest = found_above k j ms e h.1 in grind (arith, same_key)

pub there : (k j : List ℕ) (d e : Data) (ms : Members) → AllAbove k ms → get_member j ms ≡ Some e
    → get_member j (member k d ms) ≡ Some e
there k j d e ms h is =
    let less = found_above k j ms e h is in
    let greater = nat_list_cmp_total.antisymm j k in
    grind arith
