-- What is shown is at most half a millionth off and even at a tie, no other number is, and five numbers worked out.
use Rattle.std.proofs.Common.{◌≡◌, ℕ, ◌*◌, Bool, true, false, cond, leb, ℤ, pos, negsuc, sym, refl, ap, ◌∙◌, arith}
use lib.Ieee.{nan, inf, fin, binary64, up, down, of_bits}
use lib.Ieee.Fits.{down_pos}
use lib.Ieee.Nearest.{closest}
use Rattle.arithmetic.specs.Units.{signed}
use Rattle.arithmetic.specs.Millionths.{millionths_of, Shows, HalfOff, OneShows}
use Rattle.arithmetic.specs.Refusals.{Value, Refused}
use Rattle.arithmetic.proofs.ClosestLaws.{closest_near, closest_even, near-once}

shows : (t s : Bool) (m : ℕ) (e z : ℤ)
    → cond t (Refused 11) (Value (signed s (closest (m * up e * 1000000) (down e)))) ≡ Value z
    → Shows s (m * up e) (down e) z
shows true s m e z h = let f : ◌≡◌ {A = ℕ} 0 1 = cc in absurd (omega arith)
shows false s m e z h =
    let w = m * up e * 1000000 in
    record {
      size = closest w (down e);
      is = cc;
      near = closest_near w (down e) (down_pos e);
      even = closest_even w (down e) (down_pos e);
    }

pub half-off : HalfOff
unfolding millionths_of
half-off nan z h = let f : ◌≡◌ {A = ℕ} 0 1 = cc in omega arith
half-off (inf s) z h = let f : ◌≡◌ {A = ℕ} 0 1 = cc in omega arith
half-off (fin s m e) z h = shows (leb (2048 * down e) (m * up e)) s m e z h

pub one-shows : OneShows
one-shows nan y z a b = absurd a
one-shows (inf s) y z a b = absurd a
one-shows (fin s m e) y z a b =
    a.is
    ∙ ap (signed s) (near-once (m * up e * 1000000) (down e) (down_pos e) a.size b.size (a.near, a.even) (b.near, b.even))
    ∙ sym b.is

-- 1/128 is 7812.5 millionths and 3/128 is 23437.5; -0; the f64 next below 2048; -2048
pub worked-millionths :
    (millionths_of (fin false 1 (negsuc 6)) ≡ Value (pos 7812))
    × (millionths_of (fin true 3 (negsuc 6)) ≡ Value (negsuc 23437))
    × (millionths_of (fin true 0 (pos 0)) ≡ Value (pos 0))
    × (millionths_of (of_bits binary64 0x409f_ffff_ffff_ffff) ≡ Value (pos 2048000000))
    × (millionths_of (fin true 1 (pos 11)) ≡ Refused 11)
unfolding millionths_of of_bits
worked-millionths = (refl, refl, refl, refl, refl)
