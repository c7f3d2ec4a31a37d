-- What the three buffers hold is the definition's load.
use Rattle.std.proofs.Common.{arith, ap, sym}
use lib.Seq.{length-take-le}
use Rattle.strip.specs.Steps.Run.{kind_number}
use Rattle.strip.proofs.RecordLaws.{fitting}
use Rattle.strip.proofs.CallLaws.{has_room, load_is, within}
use Rattle.strip.proofs.calls.Mixture.load.Goals as goal

pub fill_floats-requires : goal.fill_floats-requires
fill_floats-requires c =
    let w = fitting _ _ (omega arith) (omega arith) c.requires.fits in
    (omega (arith, w.floats, w.short), w.floats)

pub overflow_add-at : goal.overflow_add-at
overflow_add-at c =
    let w = fitting _ _ (omega arith) (omega arith) c.requires.fits in
    omega (arith, w.floats, w.short)

pub slice_bounds-lens-end : goal.slice_bounds-lens-end
slice_bounds-lens-end c =
    let f = c.fill_lists-met in
    let w = fitting _ _ (omega arith) (omega arith) c.requires.fits in
    let o = has_room w (omega arith) f.ensures f.auto.lens f.auto.groups _ c.fill_floats.auto.a f.auto.counts in
    o.lists

pub slice_bounds-data-end : goal.slice_bounds-data-end
slice_bounds-data-end c =
    let f = c.fill_lists-met in
    let w = fitting _ _ (omega arith) (omega arith) c.requires.fits in
    let o = has_room w (omega arith) f.ensures f.auto.lens f.auto.groups _ c.fill_floats.auto.a f.auto.counts in
    sym (length-take-le _ _ o.lists)

pub slice_bounds-groups-end : goal.slice_bounds-groups-end
slice_bounds-groups-end c =
    let f = c.fill_lists-met in
    let w = fitting _ _ (omega arith) (omega arith) c.requires.fits in
    let o = has_room w (omega arith) f.ensures f.auto.lens f.auto.groups _ c.fill_floats.auto.a f.auto.counts in
    o.groups

pub slice_bounds-data-end-2 : goal.slice_bounds-data-end-2
slice_bounds-data-end-2 c =
    let f = c.fill_lists-met in
    let w = fitting _ _ (omega arith) (omega arith) c.requires.fits in
    let o = has_room w (omega arith) f.ensures f.auto.lens f.auto.groups _ c.fill_floats.auto.a f.auto.counts in
    sym (length-take-le _ _ o.groups)

pub overflow_add-given : goal.overflow_add-given
overflow_add-given c =
    let f = c.fill_lists-met in
    let w = fitting _ _ (omega arith) (omega arith) c.requires.fits in
    let o = has_room w (omega arith) f.ensures f.auto.lens f.auto.groups _ c.fill_floats.auto.a f.auto.counts in
    omega (arith, o.floats)

pub slice_bounds-given-end-2 : goal.slice_bounds-given-end-2
slice_bounds-given-end-2 c =
    let f = c.fill_lists-met in
    let w = fitting _ _ (omega arith) (omega arith) c.requires.fits in
    let o = has_room w (omega arith) f.ensures f.auto.lens f.auto.groups _ c.fill_floats.auto.a f.auto.counts in
    within _ _ _ _ _ (omega (arith, o.floats, c.fill_floats.auto.a)) o.counts

pub slice_bounds-data-end-3 : goal.slice_bounds-data-end-3
slice_bounds-data-end-3 c =
    let f = c.fill_lists-met in
    let w = fitting _ _ (omega arith) (omega arith) c.requires.fits in
    let o = has_room w (omega arith) f.ensures f.auto.lens f.auto.groups _ c.fill_floats.auto.a f.auto.counts in
    sym (length-take-le _ _ (within _ _ _ _ _ (omega (arith, o.floats, c.fill_floats.auto.a)) o.counts))

pub returns : goal.returns
returns c =
    let f = c.fill_lists-met in
    let w = fitting _ _ (omega arith) (omega arith) c.requires.fits in
    let o = has_room w (omega arith) f.ensures f.auto.lens f.auto.groups _ c.fill_floats.auto.a f.auto.counts in
    load_is _ _ _ _ c.args.model _ _ c.load.ensures (ap kind_number c.requires.kind) (omega (arith, o.floats, c.fill_floats.auto.a)) c.fill_floats.ensures.1 f.ensures o
