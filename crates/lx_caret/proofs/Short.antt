-- Texts that are short stay so with each step of a draft, and a u32 can say the length of each.
use Rattle.std.proofs.Common.{◌≡◌, ℕ, ◌+◌, ◌*◌, ◌≤◌, Bool, true, false, None, Some, refl, sym, subst, arith}
use Rattle.std.proofs.lemmas.Bool.Decides.{nat_tests}
use Rattle.lx_node.specs.Limits.{last_u32, most_characters, most_written}
use Rattle.lx_node.specs.Strings.{capped, characters_of}
use Rattle.lx_node.specs.declared.cause.Limit.TheVariants.{Written}
use Rattle.lx_node.specs.declared.kind.Kind.{Kind}
use Rattle.lx_node.specs.declared.fields.Fields.{Fields}
use Rattle.lx_select.specs.declared.selection.Selection.{Selection}
use Rattle.lx_forest.specs.Forest.{Forest}
use Rattle.lx_forest.specs.Lookups.{fields_of}
use Rattle.lx_forest.specs.Edits.{with_fields}
use Rattle.lx_draft.specs.Sizes.{AreShort}
use Rattle.lx_draft.specs.Working.{Working, TextsAreShort}
use Rattle.lx_draft.specs.Covering.{IsReady}
use Rattle.lx_draft.specs.Faults.{over, over_counts, over_written, over_limits}
use Rattle.lx_draft.specs.Steps.{made, marked_if, differ, fields_written, wrote}
use Rattle.lx_draft.proofs.Put.{both_none}
use Rattle.lx_draft.proofs.Short.{IsShort, short-more, short-with_new, short-with_fields}

-- ---- numbers

pub u32-tells : (n written : ℕ) → n ≤ 2 * (most_characters + written) → written ≤ most_written → n ≤ last_u32
u32-tells n written short allowed = omega (arith, short, allowed)

not_over : (reached : ℕ) → over Written most_written reached ≡ None → reached ≤ most_written
unfolding capped
not_over reached none = grind (arith, nat_tests, none)

-- what a step that isn't refused has written in all
pub written-allowed : (more : ℕ) (w : Working) → over_limits more w ≡ None → w.written + more ≤ most_written
written-allowed more w none = not_over (w.written + more) (both_none (over_counts w) (over_written more w) none).1

-- ---- forests

pub made-short : (kind : Kind) (x : Fields) (w : Working) → IsReady w → TextsAreShort w → TextsAreShort (made kind x w)
made-short kind x w ready short =
    let more : ℕ = w.written + characters_of x in
    short-with_new (record { key = w.next_key; kind = kind; fields = x }) w.forest more ready.in_order (ready.free w.next_key (omega arith))
    (omega arith) (short-more w.forest w.written more (omega arith) short)

still-written : (marks : Bool) (f : Forest) (k : ℕ) (w : Working) → (marked_if marks f k w).written ≡ w.written
still-written true f k w = refl
still-written false f k w = refl

pub written-short : (k : ℕ) (x : Fields) (more : ℕ) (moved : Selection → Selection) (w : Working) → IsShort (w.written + more) (Some x)
    → TextsAreShort w → TextsAreShort (fields_written k x more moved w)
written-short k x more moved w new short =
    subst (AreShort (with_fields k x w.forest)) (sym (still-written (differ (fields_of w.forest k) x) w.forest k (wrote more w)))
    (short-with_fields k x w.forest (w.written + more) new (short-more w.forest w.written (w.written + more) (omega arith) short))
