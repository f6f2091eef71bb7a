-- Tables one after another in a row of cells.
use Rattle.std.proofs.Common.{◌≡◌, ℕ, zero, suc, ◌+◌, ◌*◌, ◌≤◌, List, ◌∷◌, ◌++◌, length, take, drop, sym, refl, ap, ◌∙◌, subst, ap₂, add-mul, one-mul, add-one, mul-le-mul_right, arith}
use Rattle.std.proofs.lemmas.List.{drop-take, take-take, drop_at, take_at, length-take-le}
use Rattle.lots.specs.declared.Lot.{Lot}
use Rattle.tree.specs.Answer.{trail_cells}
use Rattle.tree.specs.Private.Stack.{tables}

suc_times : (d n : ℕ) → suc d * n ≡ d * n + n
suc_times d n = ap (λ k. k * n) (sym (add-one d)) ∙ add-mul d 1 n ∙ ap (λ k. d * n + k) (one-mul n)

pub tables_count : (n d : ℕ) (cells : List Lot) → length (tables n d cells) ≡ d
tables_count n zero cells = refl
tables_count n (suc d) cells = ap suc (tables_count n d cells)

-- the table d lies in the cells
pub inside : (n d len : ℕ) → d ≤ n → trail_cells n ≤ len → d * n + n ≤ len
inside n d len h enough = omega (arith, mul-le-mul_right {m = d} {n = n} n h)

-- the tables below a place are those of the cells before it
tables_same : (n d : ℕ) (xs ys : List Lot) → take (d * n) ys ≡ take (d * n) xs → tables n d ys ≡ tables n d xs
tables_same n zero xs ys h = refl
tables_same n (suc d) xs ys h =
    let k : take (d * n + n) ys ≡ take (d * n + n) xs = subst (λ i. take i ys ≡ take i xs) (suc_times d n) h in
    let le : d * n ≤ d * n + n = omega arith in
    ap₂ (λ (x : List Lot) (y : List (List Lot)). x ∷ y)
    (sym (drop-take (d * n) n ys) ∙ ap (drop (d * n)) k ∙ drop-take (d * n) n xs)
    (tables_same n d xs ys (sym (take-take (d * n) (d * n + n) ys le) ∙ ap (take (d * n)) k ∙ take-take (d * n) (d * n + n) xs le))

-- the cells once a table was written over those from the place d * n on
pub pushed : (n d : ℕ) (cells part post table : List Lot) → d * n ≤ length cells → part ≡ table → length table ≡ n → tables n (d + 1) (take (d * n) cells ++ (part ++ post)) ≡ table ∷ tables n d cells
pushed n d cells part post table h e len =
    let before = length-take-le (d * n) cells h in
    let after : List Lot = take (d * n) cells ++ (part ++ post) in
    ap (λ k. tables n k after) (add-one d)
    ∙ ap₂ (λ (x : List Lot) (y : List (List Lot)). x ∷ y)
    (ap (take n) (drop_at (take (d * n) cells) (part ++ post) (d * n) before) ∙ take_at part post n (ap length e ∙ len) ∙ e)
    (tables_same n d cells after (take_at (take (d * n) cells) (part ++ post) (d * n) before))
