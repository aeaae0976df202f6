use Rattle.std.proofs.Common.{◌<◌, ℕ, arith, get_or, subst}
use Rattle.city_journal.proofs.model_sum.ModelSum.to_vec.Goals as goal

pub returns-clause-sum : goal.returns-clause-sum
returns-clause-sum c = (
  omega (arith, c.in_ok-bytes.ensures.len, c.in_ok-bytes.bytes.ok.0),
  subst (λ xs. (k : ℕ) → get_or xs k 0 < 256) c.as_slice.ensures.value c.show_range.ensures,
)
