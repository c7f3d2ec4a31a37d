-- The places from a list's start to its end lie within the slices, and their parts are that list.
use Rattle.std.proofs.Common.{◌≡◌, ◌+◌, get_or, refl, arith}
use Rattle.models.proofs.GroupListLaws.{list_room, list_paired}
use Rattle.models.proofs.UnifacLaws.{list_same}
use Rattle.models.proofs.groups.GroupLists.list_from.Goals as goal

pub overflow_add-end : goal.overflow_add-end
overflow_add-end c =
    let a = c.args in
    let s = a.self.now in
    let end : a.place + c.from.result ≡ a.place + get_or s.lens.now a.i 0 = omega arith in
    omega (arith, list_room s.listed c.requires.0 c.requires.1 end, c.well_formed)

pub slice_bounds-result-end : goal.slice_bounds-result-end
slice_bounds-result-end c =
    let a = c.args in
    let s = a.self.now in
    let end : a.place + c.from.result ≡ a.place + get_or s.lens.now a.i 0 = omega arith in
    omega (arith, list_room s.listed c.requires.0 c.requires.1 end)

pub offset_bounds-self-place : goal.offset_bounds-self-place
offset_bounds-self-place c =
    let a = c.args in
    let s = a.self.now in
    let end : a.place + c.from.result ≡ a.place + get_or s.lens.now a.i 0 = omega arith in
    omega (arith, list_room s.listed c.requires.0 c.requires.1 end, c.well_formed)

pub slice_bounds-result-end-2 : goal.slice_bounds-result-end-2
slice_bounds-result-end-2 c =
    let a = c.args in
    let s = a.self.now in
    let end : a.place + c.from.result ≡ a.place + get_or s.lens.now a.i 0 = omega arith in
    omega (arith, list_room s.listed c.requires.0 c.requires.1 end)

pub invariant_of-result : goal.invariant_of-result
invariant_of-result c =
    let a = c.args in
    let s = a.self.now in
    let end : a.place + c.from.result ≡ a.place + get_or s.lens.now a.i 0 = omega arith in
    record { paired = list_paired s.listed c.requires.0 c.requires.1 end }

pub returns : goal.returns
returns c =
    let a = c.args in
    let s = a.self.now in
    let end : a.place + c.from.result ≡ a.place + get_or s.lens.now a.i 0 = omega arith in
    record { groups = refl; same = list_same s.listed c.requires.0 c.requires.1 end }
