-- What an outline is once the events between two trees were followed, and how many reads that took.
use Rattle.std.proofs.Common.{◌≡◌, ◌∙◌, ℕ, ◌+◌, ◌-◌, ◌<◌, ◌≤◌, true, cond, nat_eq, List, None, sym, ap, subst, arith}
use Rattle.std.specs.Prelude.{sum_by}
use Rattle.std.specs.Map.{lookup}
use Rattle.lx_node.specs.Limits.{most_nodes, most_characters}
use Rattle.lx_trees.specs.NamedTrees.{total}
use Rattle.lx_trees.specs.Siblings.{is_among}
use Rattle.lx_forest.specs.Forest.{Label, Forest}
use Rattle.lx_forest.specs.Weights.{weight, own_weight}
use Rattle.lx_links.specs.Stands.{Sound}
use Rattle.lx_outline.specs.declared.event.Event.{Event}
use Rattle.lx_outline.specs.declared.headings.Heading.{Heading}
use Rattle.lx_outline.specs.Events.{IsSame, ascends, AreEvents}
use Rattle.lx_outline.specs.Outline.{characters_in, heading_at}
use Rattle.lx_outline.specs.Reading.{one_in, weight_among, is_named_in, heading_reads, is_over_one, is_changed, headings_size}
use Rattle.lx_outline.proofs.FewReads.{few_reads}
use Rattle.lx_outline.proofs.Followed.{AreFollowed, followed, once_ascending}
use Rattle.lx_outline.proofs.Renewed.{headings_follow}
use Rattle.lx_outline.proofs.Weighed.{old_part, new_part, weights_follow, same_one_weight, same_text_weight, total_weight}

-- two trees that were read, with the events between them
pub record AreBetween (old new : Forest) (events : List Event) : Type 0 where
  pub before : Sound old
  pub after : Sound new
  pub told : AreFollowed old new events

pub are_between : (old new : Forest) (events : List Event) → Sound old → Sound new → AreEvents old new events → AreBetween old new events
are_between old new events before after told = record { before = before; after = after; told = followed old new events told }

-- a sum less what goes, with what comes, as it is kept in 32 bits
pub record IsMoved (was gone come is : ℕ) : Type 0 where
  pub fits : was + come < 4294967296
  pub enough : gone ≤ was + come
  pub left : was + come - gone ≡ is

-- over the forests as readers have them
module _ (old new : Forest) (events : List Event) (b : AreBetween old new events) where
  few_old : total old ≤ most_nodes → weight_among one_in old events ≤ most_nodes
  few_old few = omega (arith, few, old_part old new events b.before b.after b.told one_in, total_weight old)

  few_new : total new ≤ most_nodes → weight_among one_in new events ≤ most_nodes
  few_new few = omega (arith, few, new_part old new events b.before b.after b.told one_in, total_weight new)

  short_old : weight characters_in old ≤ most_characters → weight_among characters_in old events ≤ most_characters
  short_old short = omega (arith, short, old_part old new events b.before b.after b.told characters_in)

  short_new : weight characters_in new ≤ most_characters → weight_among characters_in new events ≤ most_characters
  short_new short = omega (arith, short, new_part old new events b.before b.after b.told characters_in)

  pub few_before : (f : Forest) → f ≡ old → total old ≤ most_nodes → weight_among one_in f events ≤ most_nodes
  few_before f same few = omega (arith, few_old few, ap (λ f. weight_among one_in f events) same)

  pub few_after : (f : Forest) → f ≡ new → total new ≤ most_nodes → weight_among one_in f events ≤ most_nodes
  few_after f same few = omega (arith, few_new few, ap (λ f. weight_among one_in f events) same)

  pub short_before : (f : Forest) → f ≡ old → weight characters_in old ≤ most_characters → weight_among characters_in f events ≤ most_characters
  short_before f same short = omega (arith, short_old short, ap (λ f. weight_among characters_in f events) same)

  pub short_after : (f : Forest) → f ≡ new → weight characters_in new ≤ most_characters → weight_among characters_in f events ≤ most_characters
  short_after f same short = omega (arith, short_new short, ap (λ f. weight_among characters_in f events) same)

  whole : (of : Label → ℕ) → ((q : ℕ) → IsSame old new q → own_weight of old q ≡ own_weight of new q)
      → weight of old + weight_among of new events ≡ weight of new + weight_among of old events
  whole of same = weights_follow old new events b.before b.after b.told of same

  -- a weight of the whole, by what goes of it with the events and what comes
  moved : (of : Label → ℕ) (most : ℕ) → most + most < 4294967296 → ((q : ℕ) → IsSame old new q → own_weight of old q ≡ own_weight of new q)
      → (f g : Forest) (was gone come : ℕ) → f ≡ old → g ≡ new → weight of old ≤ most → weight of new ≤ most
      → was ≡ weight of old → gone ≡ weight_among of f events → come ≡ weight_among of g events → IsMoved was gone come (weight of new)
  moved of most small same f g was gone come at_old at_new few many is going coming =
      let all = whole of same in
      let before : gone ≡ weight_among of old events = going ∙ ap (λ f. weight_among of f events) at_old in
      let after : come ≡ weight_among of new events = coming ∙ ap (λ f. weight_among of f events) at_new in
      record {
        fits = omega (arith, is, after, few, many, small, new_part old new events b.before b.after b.told of);
        enough = omega (arith, is, before, after, all);
        left = omega (arith, is, before, after, all);
      }

  -- the number of nodes, and that of characters
  pub nodes_moved : (f g : Forest) (was gone come : ℕ) → f ≡ old → g ≡ new → total old ≤ most_nodes → total new ≤ most_nodes
      → was ≡ total old → gone ≡ weight_among one_in f events → come ≡ weight_among one_in g events → IsMoved was gone come (total new)
  nodes_moved f g was gone come at_old at_new few many is going coming =
      subst (IsMoved was gone come) (sym (total_weight new))
      (moved one_in most_nodes (omega arith) (same_one_weight old new) f g was gone come at_old at_new (omega (arith, few, total_weight old))
      (omega (arith, many, total_weight new)) (is ∙ total_weight old) going coming)

  pub characters_moved : (f g : Forest) (was gone come : ℕ) → f ≡ old → g ≡ new → weight characters_in old ≤ most_characters
      → weight characters_in new ≤ most_characters
      → was ≡ weight characters_in old → gone ≡ weight_among characters_in f events → come ≡ weight_among characters_in g events
      → IsMoved was gone come (weight characters_in new)
  characters_moved = moved characters_in most_characters (omega arith) (same_text_weight old new)

  -- the headings, of which those that have a node of an event are read anew
  pub headings_are : (f g : Forest) (touched keys : List ℕ) (was left is : List (ℕ × Heading)) → f ≡ new → g ≡ new → keys ≡ touched
      → ((q : ℕ) → is_among q touched ≡ is_over_one f events q)
      → ((q : ℕ) → lookup (nat_eq q) was ≡ heading_at old q)
      → ((q : ℕ) → lookup (nat_eq q) left ≡ cond (is_named_in events q) None (lookup (nat_eq q) was))
      → ((q : ℕ) → lookup (nat_eq q) is ≡ cond (is_among q keys) (heading_at g q) (lookup (nat_eq q) left))
      → (q : ℕ) → lookup (nat_eq q) is ≡ heading_at new q
  headings_are f g touched keys was left is at_f at_g same over outline forgotten renewed =
      headings_follow old new events b.before b.after b.told was left is (λ q. is_among q keys) outline forgotten
      (λ q. ap (is_among q) same ∙ over q ∙ ap (λ f. is_over_one f events q) at_f)
      (λ q. renewed q ∙ ap (λ g. cond (is_among q keys) (heading_at g q) (lookup (nat_eq q) left)) at_g)

  -- what these take
  pub reads_within : (f g : Forest) (touched keys : List ℕ) → f ≡ new → g ≡ new → keys ≡ touched
      → ((q : ℕ) → is_among q touched ≡ is_over_one f events q) → ascends touched ≡ true
      → sum_by (heading_reads g) keys ≤ headings_size (is_changed events) new
  reads_within f g touched keys at_f at_g same over rising =
      omega (
        arith,
        ap (λ ks. sum_by (heading_reads g) ks) same,
        ap (λ g. sum_by (heading_reads g) touched) at_g,
        few_reads old new events b.after b.told touched (once_ascending touched rising) (λ q. over q ∙ ap (λ f. is_over_one f events q) at_f),
      )
