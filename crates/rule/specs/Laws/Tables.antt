-- What tables of the same work, and narrower ones, are to each other; so idle is sound.
use Rattle.std.specs.Prelude.{List, [], ◌∷◌, refl}
use Rattle.std.proofs.Common.{◌∙◌, arith}
use Rattle.std.specs.List.{AllZip}
use Rattle.lots.specs.declared.Lot.{Lot}
use Rattle.rule.specs.Idle.{idle}
use Rattle.rule.specs.Meanings.{SameWork, Narrower, Sound}

pub each_refl : {X : Type 0} (R : X → X → Type 0) → ((x : X) → R x x) → (xs : List X) → AllZip R xs xs
each_refl R r [] = tt
each_refl R r (x ∷ xs) = (r x, each_refl R r xs)

pub each_trans : {X : Type 0} (R : X → X → Type 0) → ((x y z : X) → R x y → R y z → R x z) →
    (xs ys zs : List X) → AllZip R xs ys → AllZip R ys zs → AllZip R xs zs
each_trans R t [] [] [] p q = tt
each_trans R t [] [] (z ∷ zs) p q = q
each_trans R t [] (y ∷ ys) zs p q = absurd p
each_trans R t (x ∷ xs) [] zs p q = absurd p
each_trans R t (x ∷ xs) (y ∷ ys) [] p q = absurd q
each_trans R t (x ∷ xs) (y ∷ ys) (z ∷ zs) p q = (t x y z p.0 q.0, each_trans R t xs ys zs p.1 q.1)

pub same_work_refl : (T : List Lot) → SameWork T T
same_work_refl T = each_refl _ (λ x. (refl, refl)) T

pub narrower_refl : (T : List Lot) → Narrower T T
narrower_refl T = each_refl _ (λ x. omega arith) T

pub same_work_trans : (T U V : List Lot) → SameWork T U → SameWork U V → SameWork T V
same_work_trans T U V p q = each_trans _ (λ x y z a b. (b.0 ∙ a.0, b.1 ∙ a.1)) T U V p q

pub narrower_trans : (T U V : List Lot) → Narrower T U → Narrower U V → Narrower T V
narrower_trans T U V p q = each_trans _ (λ x y z a b. omega arith) T U V p q

pub idle_sound : Sound idle
idle_sound = record {
  lawful = λ C T ok. (ok, same_work_refl T);
  narrows = λ C T ok. narrower_refl T;
  keeps = λ C T ok ss s. s;
  dies_rightly = λ C T ok. tt;
}
