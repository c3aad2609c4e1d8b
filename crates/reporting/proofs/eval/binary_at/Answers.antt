use native.Mathlib.Omega.{arith}
use Rattle.reporting.proofs.Soundness.{sound-width}
use Rattle.reporting.proofs.Arms.{ids-part}
use Rattle.reporting.proofs.eval.binary_at.Goals as goal

pub columns_into-w-requires : goal.columns_into-w-requires
columns_into-w-requires c = (c.requires.sound_at.0, sound-width c.requires.sound_at.0)

pub columns_into-v-requires : goal.columns_into-v-requires
columns_into-v-requires c = (c.requires.sound_at.1, sound-width c.requires.sound_at.1)

pub slice_bounds-rows_of_each-end : goal.slice_bounds-rows_of_each-end
slice_bounds-rows_of_each-end c = omega (arith, sound-width c.requires.sound_at.0, c.columns_into-w.ensures.0, c.columns_into-w.auto.ids)

pub slice_bounds-rows-end : goal.slice_bounds-rows-end
slice_bounds-rows-end c = omega (arith, sound-width c.requires.sound_at.1, c.columns_into-v.ensures.0, c.columns_into-v.auto.ids)

pub rows_of_each-requires : goal.rows_of_each-requires
rows_of_each-requires c =
    let a = c.args in
    let s = c.requires in
    let e = ids-part c.columns_into-w.result c.columns_into-w.new.ids c.columns_into-w.ensures.1 in
    let f = ids-part c.columns_into-v.result c.columns_into-v.new.ids c.columns_into-v.ensures.1 in
    rw (e, f) (record {
      node = (s.sound_at.2, s.sound_at.3, sound-width s.sound_at.0);
      few = s.k_bound.1;
      room = (s.loop_room, s.k_bound.2);
    })

pub returns : goal.returns
returns c =
    let a = c.args in
    let e = ids-part c.columns_into-w.result c.columns_into-w.new.ids c.columns_into-w.ensures.1 in
    let f = ids-part c.columns_into-v.result c.columns_into-v.new.ids c.columns_into-v.ensures.1 in
    rw (e, f) at c.rows_of_each.ensures
