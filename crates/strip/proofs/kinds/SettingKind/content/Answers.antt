-- What follows each setting's head word is the definition's.
use Rattle.std.proofs.Common.{true, arith, refl}
use mathlib.Core.Logic.{inl, inr}
use borrow.Author.Tests.{ne_eqb, eq-eqb}
use Rattle.strip.specs.Records.{shape_of}
use Rattle.strip.proofs.KindLaws.{has_content}
use Rattle.strip.proofs.kinds.SettingKind.content.Goals as goal
use Rattle.strip.proofs.kinds.SettingKind.content.Goals.{then-i-eq0, else-i-eq0}

pub returns-after-i-eq0 : goal.returns-after-i-eq0
unfolding shape_of
returns-after-i-eq0 c =
    rw c.in-Temperature.is (has_content 5 c.args.i c.args.j c.if-i-eq0.then_some 1 c.then_some.ensures c.floats_alone.ensures (elim c.if-i-eq0.branch [
      | then-i-eq0 w ↦ rw (w.then_some-is, eq-eqb c.args.i 0 w.if-i-eq0.true)
      | else-i-eq0 w ↦ rw (w.then_some-is, ne_eqb c.args.i 0 w.if-i-eq0.false)
    ]) (omega arith))

pub returns-in-TdEntry : goal.returns-in-TdEntry
unfolding shape_of
returns-in-TdEntry c = rw c.in-TdEntry.is (has_content 8 c.args.i c.args.j true 5 refl c.floats_alone-in-TdEntry.ensures refl (omega arith))

pub returns-in-Entry : goal.returns-in-Entry
unfolding shape_of
returns-in-Entry c =
    let f = c.floats_alone-in-Entry.ensures in
    elim c.in-Entry.is [
      | inl e ↦ rw e (has_content 7 c.args.i c.args.j true 1 refl f refl (omega arith))
      | inr (inl e) ↦ rw e (has_content 9 c.args.i c.args.j true 1 refl f refl (omega arith))
      | inr (inr e) ↦ rw e (has_content 10 c.args.i c.args.j true 1 refl f refl (omega arith))
    ]
