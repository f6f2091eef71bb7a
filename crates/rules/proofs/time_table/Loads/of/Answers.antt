use Rattle.std.proofs.Common.{◌≡◌, ℕ, ◌+◌, ◌-◌, ◌<◌, ◌≤◌, max, get_or, inl, inr, refl, sym, ◌∙◌, arith, rules}
use Rattle.std.proofs.lemmas.Bool.{cases_lt}
use Rattle.std.proofs.lemmas.Grind.{common_steps}
use Rattle.std.proofs.lemmas.List.{length-set}
use Rattle.lots.specs.Limits.{horizon}
use Rattle.rules.specs.TimeTable.{fixed_load}
use Rattle.rules.proofs.Greatest.{greatest_more, greatest_none, greatest_past}
use Rattle.rules.proofs.Loads.{begun_loaded, none_before, load_changes, load_next, loads_few, load_before_few}
use Rattle.rules.proofs.time_table.Loads.of.Goals as goal

pub loop-minute-init : goal.loop-minute-init
loop-minute-init c =
    let T = c.args.table.lots.now in
    let start = c.enter-minutes.result.start in
    let entered = c.enter-minutes.ensures in
    record {
      minutes = c.enter-minutes.array_long;
      week = entered.in_week.0;
      loaded = λ t h. omega (arith, entered.begun t (omega (arith, entered.in_week.0)), begun_loaded T t, entered.before t h);
      begun = λ t h k. entered.begun t k;
      load = sym (none_before T start entered.before);
      greatest = sym (greatest_none (fixed_load T) start entered.before);
    }

pub overflow_add-load : goal.overflow_add-load
overflow_add-load c =
    let T = c.args.table.lots.now in
    let t = c.loop-minute.minute in
    let entered = c.enter-minutes.ensures in
    let before = c.loop-minute.invariant in
    omega (arith, before.load, before.begun t (omega arith) (omega (arith, c.loop-minute-test.true, entered.in_week.1)), begun_loaded T t, loads_few c.args.table t, load_before_few c.args.table t)

pub overflow_sub-load : goal.overflow_sub-load
overflow_sub-load c =
    let T = c.args.table.lots.now in
    let t = c.loop-minute.minute in
    let entered = c.enter-minutes.ensures in
    let before = c.loop-minute.invariant in
    omega (arith, before.load, before.begun t (omega arith) (omega (arith, c.loop-minute-test.true, entered.in_week.1)), entered.ended t (omega (arith, before.week)), load_changes T t)

pub loop-minute-preserved : goal.loop-minute-preserved
loop-minute-preserved c =
    let T = c.args.table.lots.now in
    let t = c.loop-minute.minute in
    let entered = c.enter-minutes.ensures in
    let before = c.loop-minute.invariant in
    let week : t < horizon = omega (arith, c.loop-minute-test.true, entered.in_week.1) in
    let load : c.loop-minute.load + get_or c.loop-minute.by_minute t 0 - get_or c.enter-minutes.new.ended t 0 ≡ fixed_load T t = omega (arith, before.load, before.begun t (omega arith) week, entered.ended t (omega (arith, before.week)), load_changes T t) in
    record {
      minutes = length-set _ _ _ ∙ before.minutes;
      week = omega (arith, week);
      loaded = λ u h. grind (arith, common_steps, load, before.loaded u);
      begun = λ u h k. grind (arith, common_steps, before.begun u (omega arith) k);
      load = load ∙ sym (load_next T t _ refl);
      greatest =
          let now : c.max-greatest.result ≡ max c.loop-minute.greatest (fixed_load T t) = search rules in
          omega (arith, now, greatest_more (fixed_load T) t (t + 1) refl, before.greatest);
    }

pub invariant_of-result : goal.invariant_of-result
invariant_of-result c =
    let T = c.args.table.lots.now in
    let entered = c.enter-minutes.ensures in
    let last = c.loop-minute.invariant in
    let past : (t : ℕ) → c.loop-minute.minute ≤ t → fixed_load T t ≡ 0 = λ u h. entered.after u (omega (arith, c.loop-minute-test.false, h)) in
    record {
      loaded = λ t h. elim (cases_lt t c.loop-minute.minute) [ inl k ↦ last.loaded t k | inr k ↦ omega (arith, last.begun t k h, begun_loaded T t, past t k) ];
      is_greatest = last.greatest ∙ sym (greatest_past (fixed_load T) c.loop-minute.minute horizon last.week past);
    }
