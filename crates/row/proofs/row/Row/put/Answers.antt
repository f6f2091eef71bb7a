use Rattle.std.proofs.Common.{refl}
use Rattle.row.proofs.Rows.{seated_present, seated_full, seated_placed, stored_full, stored_placed, stored_ascends}
use Rattle.row.proofs.row.Row.put.Goals as goal

pub returns-in-Ok : goal.returns-in-Ok
returns-in-Ok g c = record {
  lent = refl;
  stored = (c.in-Ok.ensures.bound, refl, refl);
  seated = λ o up. seated_present o g.E.Keyed.keyed _ _ _ c.key.ensures.answer _ (c.in-Ok.ensures.sought o up);
  ascends = λ o up. up;
}

pub returns-then-len-self : goal.returns-then-len-self
returns-then-len-self g c = record {
  lent = refl;
  stored = stored_full _ _ _ c.len-len.ensures.answer c.args.element c.if-len-self.true;
  seated = λ o up. seated_full o g.E.Keyed.keyed _ _ _ c.key.ensures.answer _ (c.in-Err.ensures.sought o up);
  ascends = λ o up. up;
}

pub returns-else-len-self : goal.returns-else-len-self
returns-else-len-self g c = record {
  lent = refl;
  stored = stored_placed _ _ _ c.len-len.ensures.answer _ _ c.in-Err.ensures.bound _ c.if-len-self.false c.insert.ensures.after;
  seated = λ o up. seated_placed o g.E.Keyed.keyed _ _ _ c.key.ensures.answer _ (c.in-Err.ensures.sought o up);
  ascends = λ o up.
      stored_ascends o g.E.Keyed.keyed _ _ _ _ _ _
      (stored_placed _ _ _ c.len-len.ensures.answer _ _ c.in-Err.ensures.bound _ c.if-len-self.false c.insert.ensures.after)
      (seated_placed o g.E.Keyed.keyed _ _ _ c.key.ensures.answer _ (c.in-Err.ensures.sought o up))
      up;
}
