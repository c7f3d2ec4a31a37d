-- A record that doesn't fit is declined; of another, each kind makes the call that the definition names.
use Rattle.std.proofs.Common.{ap, sym, ◌∙◌}
use Rattle.strip.specs.Steps.Run.{kind_number}
use Rattle.strip.proofs.CallLaws.{made_none, made_call, query_is}
use Rattle.strip.proofs.calls.Mixture.make.Goals as goal
use Rattle.strip.proofs.calls.Mixture.make.Goals.{in-Load, in-Set, in-Fractions, in-Query}

pub returns-then-not-fits : goal.returns-then-not-fits
returns-then-not-fits c = made_none _ _ _ _ _ (sym c.fits.ensures ∙ c.if-not-fits.true)

pub returns : goal.returns
returns c =
    made_call _ _ _ _ _ (sym c.fits.ensures ∙ c.if-not-fits.false)
    (elim c.match-r.branch [
      | in-Load w ↦ rw (w.self-is, w.reply-is) w.load-reply.ensures
      | in-Set w ↦ rw (w.self-is, w.reply-is) w.set-reply.ensures
      | in-Fractions w ↦ rw (w.self-is, w.reply-is) w.fractions-reply.ensures
      | in-Query w ↦ rw (w.self-is, w.reply-is) (query_is _ _ _ _ (ap kind_number w.in-Query.is) w.query-reply.ensures w.quantity_of.ensures)
    ])
