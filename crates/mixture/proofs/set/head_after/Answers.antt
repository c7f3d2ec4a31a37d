-- The head after a setting: T and that it is set, or the tolerance; every other setting leaves it, and so does one that is declined.
use Rattle.std.proofs.Common.{inl, inr}
use Rattle.arithmetic.specs.Refusals.{number_of}
use Rattle.arithmetic.proofs.RefusalLaws.{number-positive}
use borrow.Author.Tests.{ne_eqb}
use Rattle.mixture.specs.Calls.{t_after, has_t_after, tolerance_after}
use Rattle.mixture.proofs.set.head_after.Goals as goal

pub returns-in-Temperature : goal.returns-in-Temperature
unfolding number_of t_after has_t_after tolerance_after
returns-in-Temperature c = rw (c.in-Ok.is, c.in-Temperature.is)

pub returns-in-Tolerance : goal.returns-in-Tolerance
unfolding number_of t_after has_t_after tolerance_after
returns-in-Tolerance c = rw (c.in-Ok.is, c.in-Tolerance.is)

pub returns-in-Entry : goal.returns-in-Entry
unfolding number_of t_after has_t_after tolerance_after
returns-in-Entry c =
    elim c.in-Entry.is [
      | inl e ↦ rw (c.in-Ok.is, e.3)
      | inr (inl e) ↦ rw (c.in-Ok.is, e.3)
      | inr (inr (inl e)) ↦ rw (c.in-Ok.is, e.3)
      | inr (inr (inr e)) ↦ rw (c.in-Ok.is, e.3)
    ]

pub returns-in_default : goal.returns-in_default
unfolding number_of
returns-in_default c = rw (c.in_default.is, ne_eqb _ 0 (number-positive c.in_default.field-0))
