-- Writing to a page, piece after piece.
use Rattle.std.proofs.Common.{◌≡◌, ℕ, ◌+◌, List, ◌++◌, length, take, drop, sym, ap, ◌∙◌, subst, arith, length-append, append_assoc, append-nil, refl, []}
use Rattle.std.proofs.lemmas.List.{drop-drop}
use Rattle.sheet.specs.Private.Pages.{HasRoom, Adds}
use Rattle.sheet.specs.declared.page.Page.{Page}

-- the part of the print of r that is past q is what was past it in p
rest_then : (p q r : Page) (ys : List ℕ) → r.len ≡ q.len + length ys → drop q.len q.buffer.now ≡ drop q.len p.buffer.now → drop r.len q.buffer.now ≡ drop r.len p.buffer.now
rest_then p q r ys e h =
    let back : (xs : List ℕ) → drop r.len xs ≡ drop (length ys) (drop q.len xs) = λ xs. ap (λ k. drop k xs) e ∙ sym (drop-drop (length ys) q.len xs) in
    back q.buffer.now ∙ ap (drop (length ys)) h ∙ sym (back p.buffer.now)

pub adds_nothing : (p : Page) → Adds p [] p
adds_nothing p = record { longer = omega arith; text = sym (append-nil (take p.len p.buffer.now)); rest = refl; same_size = refl }

pub adds_then : {p q r : Page} {xs ys : List ℕ} → Adds p xs q → Adds q ys r → Adds p (xs ++ ys) r
adds_then {p} {q} {r} {xs} {ys} a b = record {
  longer = omega (arith, a.longer, b.longer, length-append xs ys);
  text = b.text ∙ ap (λ t. t ++ ys) a.text ∙ append_assoc (take p.len p.buffer.now) xs ys;
  rest = b.rest ∙ rest_then p q r ys b.longer a.rest;
  same_size = b.same_size ∙ a.same_size;
}

-- where there is room for all of it, there is room for what is left of it
pub room_after : {p q : Page} (xs ys : List ℕ) → HasRoom p (xs ++ ys) → Adds p xs q → HasRoom q ys
room_after xs ys room a = omega (arith, a.longer, a.same_size, length-append xs ys)

pub room_front : (p : Page) (xs ys : List ℕ) → HasRoom p (xs ++ ys) → HasRoom p xs
room_front p xs ys room = omega (arith, length-append xs ys)

pub room_between : {p q : Page} (xs ys zs : List ℕ) → HasRoom p (xs ++ (ys ++ zs)) → Adds p xs q → HasRoom q ys
room_between {p} {q} xs ys zs room a = room_front q ys zs (room_after xs (ys ++ zs) room a)

-- the same of bytes that are two pieces
pub room_past : {p q : Page} (bs xs ys : List ℕ) → bs ≡ xs ++ ys → HasRoom p bs → Adds p xs q → HasRoom q ys
room_past {p} bs xs ys e room a = room_after xs ys (subst (HasRoom p) e room) a

pub adds_past : {p q r : Page} {bs xs ys : List ℕ} → bs ≡ xs ++ ys → Adds p xs q → Adds q ys r → Adds p bs r
adds_past {p} {q} {r} e a b = subst (λ bs. Adds p bs r) (sym e) (adds_then a b)

pub adds_none : {p : Page} {bs : List ℕ} → bs ≡ [] → Adds p bs p
adds_none {p} e = subst (λ bs. Adds p bs p) (sym e) (adds_nothing p)
