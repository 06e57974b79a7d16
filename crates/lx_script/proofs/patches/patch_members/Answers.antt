use Rattle.std.proofs.Common.{◌≡◌, ◌∙◌, ap, sym, List, [], ◌∷◌, ◌++◌, Option, Some, option_map, string_bytes}
use Rattle.std.specs.Option.{option_zip}
use Rattle.serde_json.proofs.Views.{Entry}
use Rattle.serde_json.specs.View.{view, members_view}
use Rattle.lx_step.specs.declared.member.Member.{Member}
use Rattle.lx_fields.specs.Values.{word_in}
use Rattle.lx_fields.specs.Words.{names}
use Rattle.lx_script.specs.Patches.{patch_member, patch_members}
use Rattle.lx_script.proofs.Gathered.{made_more}
use Rattle.lx_script.proofs.patches.patch_members.Goals as goal

-- an entry that gives a member goes from what is left to what is made
taken : (made : List Member) (member : Member) (e : Entry) (left entries : List Entry) (all : Option (List Member))
    → Some member ≡ patch_member (word_in names (string_bytes e.0)) (string_bytes e.0) (view e.1) → entries ≡ e ∷ left
    → option_map (λ more. made ++ more) (patch_members (members_view entries)) ≡ all
    → option_map (λ more. (made ++ member ∷ []) ++ more) (patch_members (members_view left)) ≡ all
taken made member e left entries all is first so_far =
    made_more made member (patch_members (members_view left))
    ∙ ap (λ o. option_map (λ more. made ++ more) (option_map (λ p. p.0 ∷ p.1) (option_zip o (patch_members (members_view left))))) is
    ∙ ap (λ es. option_map (λ more. made ++ more) (patch_members (members_view es))) (sym first)
    ∙ so_far

pub members-preserved : goal.members-preserved
members-preserved c =
    let e : Entry = (c.in-Some.name.now, c.in-Some.value.now) in
    let text = c.as_str-text.result.now in
    let is : Some c.in-Some-2.member ≡ patch_member (word_in names (string_bytes e.0)) (string_bytes e.0) (view e.1) =
    cc (c.in_ok-member.ensures, c.as_str-text.ensures.value) in
    rw c.in_ok-push-in-Some-2.ensures.items
    (taken c.members.made.items c.in-Some-2.member e c.next.new.self c.members.name-iterator _ is c.in-Some.ensures.steps c.members.invariant)
