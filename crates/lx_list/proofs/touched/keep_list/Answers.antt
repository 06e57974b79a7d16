use Rattle.std.proofs.Common.{◌∙◌, arith}
use Rattle.lx_list.proofs.KeptLists.{none_kept}
use Rattle.lx_list.proofs.touched.keep_list.Goals as goal
use Rattle.lx_list.proofs.touched.keep_list.Goals.{else-is_list_at-via-then-is_list_at+else-is_attached, else-is_list_at-via-else-is_list_at}

pub returns-else-is_list_at : goal.returns-else-is_list_at
returns-else-is_list_at c = λ p kept. kept ∙ none_kept c.args.links.now c.args.key p (elim c.else-is_list_at.branch [
  | else-is_list_at-via-then-is_list_at+else-is_attached w ↦ grind (arith, c.is_list_at.ensures, w.is_attached.ensures.attached, w.if-is_attached.false)
  | else-is_list_at-via-else-is_list_at w ↦ grind (arith, c.is_list_at.ensures, w.if-is_list_at.false)
])
