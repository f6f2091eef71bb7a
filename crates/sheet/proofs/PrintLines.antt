-- The lines of windows and of starts, one after another.
use Rattle.std.proofs.Common.{◌≡◌, ℕ, List, [], ◌∷◌, ◌++◌, length, take, codes, refl, arith}
use Rattle.std.specs.Borrow.{Bor}
use Rattle.lots.specs.declared.Lot.{Lot}
use Rattle.sheet.specs.Private.Pages.{bytes_of}
use Rattle.sheet.specs.PrintLines.{named_line, window_lines, start_lines}

pub windows_from : (ws us : List (Bor (List ℕ))) (xs ys : List Lot) (w : Bor (List ℕ)) (x : Lot) (a b : ℕ) → ws ≡ w ∷ us → xs ≡ x ∷ ys → a ≡ x.est → b ≡ x.lct
    → window_lines (bytes_of ws) xs ≡ named_line (codes "W") (a ∷ b ∷ []) w.now ++ window_lines (bytes_of us) ys
windows_from ws us xs ys w x a b e f g h = rw (e, f, g, h) refl

pub starts_from : (ws us : List (Bor (List ℕ))) (ss ts : List ℕ) (w : Bor (List ℕ)) (s a : ℕ) → ws ≡ w ∷ us → ss ≡ s ∷ ts → a ≡ s
    → start_lines (bytes_of ws) (take (length ws) ss) ≡ named_line (codes "A") (a ∷ []) w.now ++ start_lines (bytes_of us) (take (length us) ts)
starts_from ws us ss ts w s a e f g = rw (e, f, g) refl

pub no_windows_unnamed : (ws : List (Bor (List ℕ))) (xs : List Lot) → length ws ≡ 0 → window_lines (bytes_of ws) xs ≡ []
no_windows_unnamed [] [] h = refl
no_windows_unnamed [] (x ∷ xs) h = refl
no_windows_unnamed (w ∷ ws) xs h = absurd (omega (arith, h))

pub no_windows : (ws : List (Bor (List ℕ))) (xs : List Lot) → length xs ≡ 0 → window_lines (bytes_of ws) xs ≡ []
no_windows ws [] h = refl
no_windows ws (x ∷ xs) h = absurd (omega (arith, h))

pub no_starts_unnamed : (ws : List (Bor (List ℕ))) (ss : List ℕ) → length ws ≡ 0 → start_lines (bytes_of ws) (take (length ws) ss) ≡ []
no_starts_unnamed [] ss h = refl
no_starts_unnamed (w ∷ ws) ss h = absurd (omega (arith, h))

pub no_starts : (ws : List (Bor (List ℕ))) (ss : List ℕ) → length ss ≡ 0 → start_lines (bytes_of ws) (take (length ws) ss) ≡ []
no_starts [] [] h = refl
no_starts (w ∷ ws) [] h = refl
no_starts ws (s ∷ ss) h = absurd (omega (arith, h))
