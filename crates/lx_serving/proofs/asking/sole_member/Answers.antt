use Rattle.std.proofs.Common.{◌≡◌, ◌∙◌, ap, sym, true, false, arith, if◌then◌else◌, Some, None, length}
use Rattle.std.specs.Str.{bytes_eq}
use Rattle.serde_json.proofs.Views.{Entry}
use Rattle.serde_json.specs.View.{view}
use Rattle.lx_serving.proofs.Asked.{sole_member-one, sole_member-others}
use Rattle.lx_serving.proofs.asking.sole_member.Goals as goal

pub returns-then-not-is_only : goal.returns-then-not-is_only
returns-then-not-is_only c =
    let entries = c.in_ok-members.members.now.entries in
    let len : c.len-is_only.result ≡ length entries = c.len-is_only.ensures.len in
    sole_member-others c.args.name.now _ entries c.in_ok-members.ensures (λ one. omega arith)

pub returns-then-eq : goal.returns-then-eq
returns-then-eq c =
    let entries = c.in_ok-members.members.now.entries in
    let len : c.len-is_only.result ≡ length entries = c.len-is_only.ensures.len in
    let e : Entry = (c.in_ok-first.first.now, c.in_ok-first.member.now) in
    let same : bytes_eq c.as_str.result.now c.args.name.now ≡ true = cc in
    sym (ap (λ b. if b then Some (view e.1) else None) (ap (λ t. bytes_eq t c.args.name.now) (sym c.as_str.ensures.value) ∙ same))
    ∙ sole_member-one c.args.name.now _ entries e c.in_ok-members.ensures (omega arith) c.in_ok-first.ensures.first

pub returns-else-eq : goal.returns-else-eq
returns-else-eq c =
    let entries = c.in_ok-members.members.now.entries in
    let len : c.len-is_only.result ≡ length entries = c.len-is_only.ensures.len in
    let e : Entry = (c.in_ok-first.first.now, c.in_ok-first.member.now) in
    let other : bytes_eq c.as_str.result.now c.args.name.now ≡ false = cc in
    sym (ap (λ b. if b then Some (view e.1) else None) (ap (λ t. bytes_eq t c.args.name.now) (sym c.as_str.ensures.value) ∙ other))
    ∙ sole_member-one c.args.name.now _ entries e c.in_ok-members.ensures (omega arith) c.in_ok-first.ensures.first
