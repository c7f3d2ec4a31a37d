-- Whether a record fits: the definition's tests in turn.
use Rattle.std.proofs.Common.{◌≡◌, ◌&&◌, arith, sym, ◌∙◌}
use borrow.Author.Tests.{lt-leb}
use Rattle.strip.specs.Steps.Run.{fits}
use Rattle.strip.proofs.RecordLaws.{fits_not, fits_same, fits_other}
use Rattle.strip.proofs.records.Record.fits.Goals as goal

pub returns-then-s-gt-MOST_BYTES : goal.returns-then-s-gt-MOST_BYTES
unfolding fits
returns-then-s-gt-MOST_BYTES c = rw (lt-leb _ _ c.if-s-gt-MOST_BYTES.true)

pub returns-in-None : goal.returns-in-None
returns-in-None c = fits_not _ _ c.if-s-gt-MOST_BYTES.false c.in-None.ensures

pub returns-then-eq : goal.returns-then-eq
returns-then-eq c = fits_same _ _ c.if-s-gt-MOST_BYTES.false c.in-Some.ensures.0 (sym c.eq.ensures ∙ c.if-eq.true) c.has.ensures

pub returns-else-eq : goal.returns-else-eq
returns-else-eq c = c.if-eq.false ∙ fits_other _ _ c.if-s-gt-MOST_BYTES.false c.in-Some.ensures.0 (sym c.eq.ensures ∙ c.if-eq.false)
