use native.Mathlib.Omega.{arith}
use mathlib.Core.Path.{◌≡◌, refl, ap, sym, ◌∙◌}
use mathlib.Core.List.{[], ◌∷◌}
use Prim.Native.Nat.{ℕ, ◌≤◌, ◌-◌}
use borrow.Rule.Slice.PartMut.{put_mid, same_len_mid}
use lib.ListN.{length}
use Rattle.std.proofs.lemmas.Result.{err_from_is_err_and}
use Rattle.algebra.specs.Plans.{distinct, one}
use Rattle.algebra.specs.Refusals.{need}
use Rattle.reading.specs.TableSet.{tables_of}
use Rattle.reading.specs.Tree.{operator_of, plan_at, plan_of}
use Rattle.reading.specs.Check.{input_refusal}
use Rattle.reporting.specs.Evaluation.{Ready}
use Rattle.reporting.proofs.Soundness.{sound-bound}
use Rattle.reporting.proofs.Arms.{rows_fit}
use Rattle.reporting.proofs.Lent.{tail_length}
use Rattle.reporting.proofs.Subplans.{ready_at, spare, EvaluatedAt, keys-arity, keys-room, keys-evaluated, not-turned, rows-turned, rows-done}
use Rattle.reporting.proofs.subplan.keys_at.Goals as goal
use Rattle.reporting.proofs.subplan.keys_at.Goals.{After-eval-m, After-unary_at-rows, In_ok-turned_back}

accepted : (c : In_ok-turned_back) → let a = c.args in (input_refusal a.set.now a.plan.now ≡ 0) × (need (tables_of a.set.now) (plan_of a.plan.now) ≤ length a.scratch.now)
accepted c = let a = c.args in not-turned a.set.now a.plan.now a.scratch.now (sym c.in_ok-turned_back.ensures.value)

long : (c : In_ok-turned_back) → let a = c.args in 4096 ≤ length a.scratch.now
long c = let a = c.args in omega (arith, (accepted c).1, spare (tables_of a.set.now) (plan_of a.plan.now))

readied : (c : In_ok-turned_back) (n : ℕ) → let a = c.args in n ≡ length a.scratch.now - 4096 → Ready (tables_of a.set.now) (plan_at a.plan.now a.place) n 256
readied c n e = let a = c.args in ready_at a.set.now a.plan.now n (accepted c).0 (omega (arith, (accepted c).1, long c)) a.place

part : (c : After-eval-m) → let a = c.args in length c.eval-m.new.cells ≡ length a.scratch.now - 4096
part c = c.eval-m.auto.cells ∙ tail_length 4096 c.turned_back.new.scratch ∙ ap (λ (k : ℕ). k - 4096) c.turned_back.auto.scratch

whole : (c : After-eval-m) → let a = c.args in let s = c.turned_back.new.scratch in length (put_mid 4096 (length s - 4096) s c.eval-m.new.cells) ≡ length a.scratch.now
whole c = let s = c.turned_back.new.scratch in same_len_mid 4096 (length s - 4096) s c.eval-m.new.cells c.eval-m.auto.cells ∙ c.turned_back.auto.scratch

found : (c : After-unary_at-rows) → let a = c.args in 4096 ≤ length a.scratch.now → Ready (tables_of a.set.now) (plan_at a.plan.now a.place) (length c.eval-m.new.cells) 256 → EvaluatedAt (tables_of a.set.now) (one (distinct (a.id ∷ [])) (plan_at a.plan.now a.place)) c.unary_at-rows.new.cells (length a.scratch.now) c.unary_at-rows.result 1
found c long ready =
    let a = c.args in
    let s = c.turned_back.new.scratch in
    let same = c.turned_back.auto.scratch in
    let ys = c.eval-m.new.cells in
    rw (← same) (keys-evaluated (tables_of a.set.now) (plan_at a.plan.now a.place) a.id (operator_of c.distinct_of-node.result) c.distinct_of-node.ensures s ys c.unary_at-rows.new.cells c.eval-m.result c.unary_at-rows.result (length s - 4096) (omega (arith, long, same)) ready c.eval-m.ensures c.unary_at-rows.ensures)

pub slice_bounds-eval-count : goal.slice_bounds-eval-count
slice_bounds-eval-count c = omega (arith, long ((goal.at.slice_bounds-eval-count c).In_ok-turned_back), c.turned_back.auto.scratch)

pub slice_bounds-eval-start : goal.slice_bounds-eval-start
slice_bounds-eval-start c = omega (arith, long ((goal.at.slice_bounds-eval-start c).In_ok-turned_back), c.turned_back.auto.scratch)

pub slice_bounds-eval-end : goal.slice_bounds-eval-end
slice_bounds-eval-end c = omega (arith, long ((goal.at.slice_bounds-eval-end c).In_ok-turned_back), c.turned_back.auto.scratch)

pub eval-m-requires : goal.eval-m-requires
eval-m-requires c = readied (goal.at.eval-m-requires c).In_ok-turned_back _ (tail_length 4096 c.turned_back.new.scratch ∙ ap (λ (k : ℕ). k - 4096) c.turned_back.auto.scratch)

pub unary_at-rows-requires : goal.unary_at-rows-requires
unary_at-rows-requires c =
    let a = c.args in
    let r = readied (goal.at.unary_at-rows-requires c).In_ok-turned_back _ (part (goal.at.unary_at-rows-requires c).After-eval-m) in
    let few = c.eval-m.ensures.few in
    let e = c.distinct_of-node.ensures in record { sound_at = (r.sound, keys-arity (tables_of a.set.now) (plan_at a.plan.now a.place) a.id _ e, refl, omega (arith, few, sound-bound r.sound)); unary_room = keys-room (tables_of a.set.now) (plan_at a.plan.now a.place) a.id _ e c.eval-m.result _ (omega (arith, few, sound-bound r.sound)) (omega (arith, rows_fit c.eval-m.result r few, whole (goal.at.unary_at-rows-requires c).After-eval-m, part (goal.at.unary_at-rows-requires c).After-eval-m, long (goal.at.unary_at-rows-requires c).In_ok-turned_back)) }

pub given-requires : goal.given-requires
given-requires c =
    let e = found (goal.at.given-requires c).After-unary_at-rows (long (goal.at.given-requires c).In_ok-turned_back) (readied (goal.at.given-requires c).In_ok-turned_back _ (part (goal.at.given-requires c).After-eval-m)) in
    (e.most, omega (arith, e.inside, c.unary_at-rows.auto.cells, whole (goal.at.given-requires c).After-eval-m))

pub shape_of-scratch : goal.shape_of-scratch
shape_of-scratch c = c.given.auto.scratch ∙ (c.unary_at-rows.auto.cells ∙ whole (goal.at.shape_of-scratch c).After-eval-m)

pub returns-in_err-turned_back : goal.returns-in_err-turned_back
returns-in_err-turned_back c =
    let a = c.args in
    let p = err_from_is_err_and c.from_residual.result c.from_residual.ensures.1 in
    rw (p.1, p.2) (rows-turned a.set.now a.plan.now a.scratch.now (one (distinct (a.id ∷ [])) (plan_at a.plan.now a.place)) _ _ (c.in_err-turned_back.ensures.value, c.in_err-turned_back.ensures.scratch_after))

pub returns : goal.returns
returns c =
    let a = c.args in
    let k = accepted (goal.at.returns c).In_ok-turned_back in
    rows-done a.set.now a.plan.now a.scratch.now (one (distinct (a.id ∷ [])) (plan_at a.plan.now a.place)) c.given.result _ _ _ _ k.0 k.1 (c.unary_at-rows.auto.cells ∙ whole (goal.at.returns c).After-eval-m) (found (goal.at.returns c).After-unary_at-rows (long (goal.at.returns c).In_ok-turned_back) (readied (goal.at.returns c).In_ok-turned_back _ (part (goal.at.returns c).After-eval-m))) c.given.ensures.value c.given.ensures.scratch_after
