-- What writing does to a page.
use Rattle.std.specs.Prelude.{◌≡◌, ℕ, ◌+◌, ◌≤◌, List, ◌++◌, length, map, take, drop}
use Rattle.std.specs.Borrow.{Bor}
use Rattle.sheet.specs.declared.page.Page.{Page}

-- the buffer has room for the bytes after the print
abbrev pub HasRoom : Page → List ℕ → Type 0
HasRoom p bytes = p.len + length bytes ≤ length p.buffer.now

-- the bytes are added to the print of p, and then the page is q
pub record Adds (p : Page) (bytes : List ℕ) (q : Page) : Type 0 where
  pub longer : q.len ≡ p.len + length bytes
  pub text : take q.len q.buffer.now ≡ take p.len p.buffer.now ++ bytes
  pub rest : drop q.len q.buffer.now ≡ drop q.len p.buffer.now
  pub same_size : length q.buffer.now ≡ length p.buffer.now

-- the bytes behind references
abbrev pub bytes_of : List (Bor (List ℕ)) → List (List ℕ)
bytes_of ws = map (λ w. w.now) ws
