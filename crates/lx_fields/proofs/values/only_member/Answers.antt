use Rattle.std.proofs.Common.{◌≡◌, arith, length}
use Rattle.lx_fields.proofs.Objects.{only_member-one, only_member-others}
use Rattle.lx_fields.proofs.values.only_member.Goals as goal

pub returns-then-not-is_only : goal.returns-then-not-is_only
returns-then-not-is_only g c =
    let entries = c.in_ok-members.members.now.entries in
    let len : c.len-is_only.result ≡ length entries = c.len-is_only.ensures.len in
    only_member-others _ _ entries c.in_ok-members.ensures (λ one. omega arith)

pub returns-in-Some : goal.returns-in-Some
returns-in-Some g c =
    let entries = c.in_ok-members.members.now.entries in
    let len : c.len-is_only.result ≡ length entries = c.len-is_only.ensures.len in
    only_member-one _ _ entries (c.in_ok-name.name.now, c.in_ok-name.member.now) _ _ c.in_ok-members.ensures
    (omega arith) c.in_ok-name.ensures.first c.in-Some.ensures c.as_str.ensures.value

pub returns-in-None : goal.returns-in-None
returns-in-None g c =
    let entries = c.in_ok-members.members.now.entries in
    let len : c.len-is_only.result ≡ length entries = c.len-is_only.ensures.len in
    only_member-one _ _ entries (c.in_ok-name.name.now, c.in_ok-name.member.now) _ _ c.in_ok-members.ensures
    (omega arith) c.in_ok-name.ensures.first c.in-None.ensures c.as_str.ensures.value
