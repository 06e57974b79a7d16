use Rattle.std.proofs.Common.{◌≡◌, ◌∙◌, ap, sym, subst}
use Rattle.std.specs.Prelude.{OnOk}
use Rattle.serde_json.specs.Data.{no_members, object}
use Rattle.lx_script.specs.Replies.{attributes_onto}
use Rattle.lx_script.specs.Sent.{Tells, members_in_order}
use Rattle.lx_script.proofs.Sent.{risen}
use Rattle.lx_script.proofs.ops.put_attributes.Goals as goal

pub returns : goal.returns
returns c =
    let same : members_in_order c.items.result.now ≡ attributes_onto no_members c.args.attributes.now =
    sym (risen c.items.result.now c.items.ensures.rising.rise) ∙ ap (attributes_onto no_members) c.items.ensures.items in
    subst (λ ms. OnOk c.put_in_order.result (Tells (object ms) c.args.writer.now c.put_in_order.new.writer)) same c.put_in_order.ensures
