use Rattle.lx_list.proofs.WindowEnds.{with_key, with_element, still_window, element_flagged, element_below}
use Rattle.lx_list.proofs.windows.widened_if.Goals as goal

pub returns-then-flag : goal.returns-then-flag
returns-then-flag c = λ m w.
    still_window c.args.links.now (with_key c.args.key m) (with_element c.args.key c.args.flag m) c.args.list c.widened.result c.requires
    (λ q there. element_flagged m c.args.key q c.args.flag) (c.widened.ensures m w)

pub returns : goal.returns
returns c = λ m w.
    still_window c.args.links.now m (with_element c.args.key c.args.flag m) c.args.list c.args.window c.requires
    (λ q there. element_below m c.args.key q c.args.flag c.if-flag.false) w
