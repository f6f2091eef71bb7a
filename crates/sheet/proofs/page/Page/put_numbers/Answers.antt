use Rattle.std.proofs.Common.{◌≡◌, ℕ, ◌+◌, ◌<◌, List, [], ◌++◌, length, codes, decimal, get_or, drop, sym, refl, subst, drop-cons, add-one, arith}
use Rattle.std.proofs.lemmas.List.{drop_all}
use Rattle.lots.specs.Texts.{numbers}
use Rattle.sheet.specs.Private.Pages.{Adds, HasRoom}
use Rattle.sheet.specs.declared.page.Page.{Page}
use Rattle.sheet.proofs.Pages.{adds_nothing, adds_then, room_after, room_between, room_front}
use Rattle.sheet.proofs.page.Page.put_numbers.Goals as goal

-- the numbers from one on are that one and the numbers after it
numbers_from : (ns : List ℕ) (i : ℕ) → i < length ns → numbers (drop i ns) ≡ codes " " ++ (decimal (get_or ns i 0) ++ numbers (drop (i + 1) ns))
numbers_from ns i h = rw (add-one i, drop-cons ns i 0 h) refl

room_from : (p : Page) (ns : List ℕ) (i : ℕ) → i < length ns → HasRoom p (numbers (drop i ns)) → HasRoom p (codes " " ++ (decimal (get_or ns i 0) ++ numbers (drop (i + 1) ns)))
room_from p ns i h room = subst (HasRoom p) (numbers_from ns i h) room

adds_from : (p q : Page) (ns : List ℕ) (i : ℕ) → i < length ns → Adds p (codes " " ++ (decimal (get_or ns i 0) ++ numbers (drop (i + 1) ns))) q → Adds p (numbers (drop i ns)) q
adds_from p q ns i h a = subst (λ bs. Adds p bs q) (sym (numbers_from ns i h)) a

pub loop-number-init : goal.loop-number-init
loop-number-init c = record { same_buffer = refl; room = c.requires.room; adds = λ q a. a }

pub put-requires : goal.put-requires
put-requires c =
    let room = room_from c.loop-number.self c.args.numbers.now c.loop-number.number-index c.loop-number-test.true c.loop-number.invariant.room in
    record { room = room_front c.loop-number.self (codes " ") _ room }

pub put_number-requires : goal.put_number-requires
put_number-requires c =
    let room = room_from c.loop-number.self c.args.numbers.now c.loop-number.number-index c.loop-number-test.true c.loop-number.invariant.room in
    record { room = room_between (codes " ") _ _ room c.put.ensures.adds }

pub loop-number-preserved : goal.loop-number-preserved
loop-number-preserved c =
    let ns = c.args.numbers.now in
    let i = c.loop-number.number-index in
    let room = room_from c.loop-number.self ns i c.loop-number-test.true c.loop-number.invariant.room in
    record {
      same_buffer = cc;
      room = room_after _ _ (room_after (codes " ") _ room c.put.ensures.adds) c.put_number.ensures.adds;
      adds = λ q a. c.loop-number.invariant.adds q (adds_from c.loop-number.self q ns i c.loop-number-test.true (adds_then c.put.ensures.adds (adds_then c.put_number.ensures.adds a)));
    }

pub returns-clause-same_buffer : goal.returns-clause-same_buffer
returns-clause-same_buffer c = c.loop-number.invariant.same_buffer

pub returns-clause-adds : goal.returns-clause-adds
returns-clause-adds c =
    let ns = c.args.numbers.now in
    let i = c.loop-number.number-index in
    let done : numbers (drop i ns) ≡ [] = rw (drop_all i ns (omega (arith, c.loop-number-test.false))) refl in
    c.loop-number.invariant.adds _ (rw done (adds_nothing c.loop-number.self))
