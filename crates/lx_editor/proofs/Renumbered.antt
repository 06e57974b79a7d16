-- What numbering leaves of what had come to rest.
use Rattle.std.proofs.Common.{◌∙◌, List, sym, ap}
use Rattle.lx_marks.specs.Marks.{Marked}
use Rattle.lx_forest.specs.Forest.{Forest}
use Rattle.lx_draft.specs.Working.{Working}
use Rattle.lx_draft.specs.Covering.{AreCovered}
use Rattle.lx_draft.proofs.Covered.{covers-then, new_then}
use Rattle.lx_edit.specs.Texts.{simple_at}
use Rattle.lx_rules.specs.Answers.{Answers}
use Rattle.lx_settle.specs.Joined.{IsJoined, is_empty_text, are_alike}
use Rattle.lx_settle.specs.Laws.{AreMarked}
use Rattle.lx_settle.specs.Rested.{IsRested, is_uneasy}
use Rattle.lx_list.specs.Laws.{IsRenumbered}

pub marked_on : (u v w : Working) → AreMarked u v → AreCovered v w → AreMarked u w
marked_on u v w a b = record {
  marks = covers-then u.forest v.forest w.forest u.marks v.marks w.marks a.marks b.marks;
  kinds = record { each = λ q kind e. b.kinds.each q kind (a.kinds.each q kind e) };
  keys = new_then u v w a.keys b.keys;
  ready = b.ready;
}

-- no rule sees a number, so what was at rest stays so
pub rested_on : (rules : List Answers) (f g : Forest) (m : Marked) → IsRenumbered f g → IsRested rules f m → IsRested rules g m
rested_on rules f g m n rested = record {
  each = λ q there due. ap (is_uneasy rules) (n.views q) ∙ rested.each q (sym (n.attached q) ∙ there) due;
}

-- and no text changes
pub joined_on : (f g : Forest) → IsRenumbered f g → IsJoined f → IsJoined g
joined_on f g n joined = record {
  full = λ q there. ap is_empty_text (n.texts q) ∙ joined.full q (sym (n.attached q) ∙ there);
  apart = λ q next there is.
      ap (λ o. are_alike o (simple_at g next)) (n.texts q) ∙ ap (are_alike (simple_at f q)) (n.texts next)
      ∙ joined.apart q next (sym (n.attached q) ∙ there) (sym (n.neighbours q) ∙ is);
}
