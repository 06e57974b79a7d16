-- A tree stays as it is where a text outside it is split, and where trees are put in around a block outside it, also when the
-- block goes.
use Rattle.std.proofs.Common.{◌≡◌, ◌≢◌, ◌∙◌, ◌-◌, ℕ, Bool, true, false, cond, ◌&&◌, List, [], ◌∷◌, length, Result, Ok, refl, ap, sym, arith, eqb, ltb, ◌||◌, ◌++◌, Option, None, Some, subst, inl, inr, append_assoc}
use Rattle.std.specs.Prelude.{is_some}
use Rattle.std.specs.Option.{option_or}
use Rattle.lx_trees.specs.Trees.{nil, tree}
use Rattle.lx_node.specs.Strings.{characters_of}
use Rattle.lx_node.specs.declared.kind.Kind.{Kind}
use Rattle.lx_node.specs.declared.kind.Kind.TheVariants.{Text}
use Rattle.lx_node.specs.declared.fields.Fields.{Fields}
use Rattle.lx_node.specs.declared.cause.Cause.{Cause}
use Rattle.lx_node.specs.declared.cause.Point.{Point}
use Rattle.lx_forest.specs.Forest.{Forest, Label}
use Rattle.lx_forest.specs.Lookups.{has, count, alone, label_of, is_within, key_of, kind_of, size_of, ancestors, IsForest}
use Rattle.lx_forest.specs.Edits.{with_fields, take_out}
use Rattle.lx_forest.proofs.Within.{alone-with_new, alone-with_fields, is_within-self, is_within-up, alone-take_out_inside, alone-take_out_outside, is_within-ancestors, is_within-trans}
use Rattle.lx_draft.specs.Working.{Working}
use Rattle.lx_draft.specs.Faults.{after, over_limits, splice_fault}
use Rattle.lx_draft.specs.Steps.{made, new_step, fields_written, splice_points, label_with_piece, splice_step, take_step, put_step}
use Rattle.lx_draft.specs.Beside.{put_behind_step}
use Rattle.lx_draft.specs.Covering.{IsReady}
use Rattle.lx_draft.proofs.Covered.{answered}
use Rattle.lx_draft.proofs.CoveredSteps.{covered-new, covered-splice, covered-take}
use Rattle.lx_select.specs.Rules.{split_moves}
use Rattle.lx_edit.specs.Conditions.{length_at, split_fault}
use Rattle.lx_edit.specs.Edits.{pointed, moved_to_end, sent_away, goes_too, removed, remove_step}
use Rattle.lx_edit.specs.Texts.{tail_of, tail_made, cut_in_two, cut_at, split_step}
use Rattle.lx_edit.proofs.Climbed.{first_part, sent_away-forest, taken-forest}
use Rattle.lx_edit.proofs.Paths.{ok, allowed}
use Rattle.std.proofs.lemmas.Bool.Decides.{eqb_tells}
use Rattle.lx_blocks.specs.Ranges.{normal_at}
use Rattle.lx_caret.specs.Adding.{is_inside, opened}
use Rattle.lx_clip_laws.proofs.Between.{none_of, behind_stands, put_behind_came, put_came, put_stands, is_child}
use Rattle.std.proofs.lemmas.Bool.{cases_Bool}
use Rattle.lx_trees.specs.Siblings.{is_among}
use Rattle.lx_trees.proofs.NamedTrees.{without-absent, count-without-alone}
use Rattle.lx_trees.proofs.Siblings.{is_among-append}
use Rattle.lx_forest.proofs.Lookups.{has-child}
use Rattle.lx_forest.proofs.Order.{IsForest-take_out}
use Rattle.lx_edit.specs.InTurn.{in_turn}
use Rattle.lx_blocks.specs.Making.{new_like}
use Rattle.lx_caret.specs.Removing.{removed_empty}
use Rattle.lx_caret.proofs.Fit.{after_tells}
use Rattle.lx_clip.specs.Pasting.{Tailed, tail_made as block_tail, put_around}
use Rattle.lx_clip_laws.specs.Between.{IsOutside, key_if, PastedStandBetween}
use Rattle.lx_clip_laws.proofs.Pasted.{inlines_between, around_between, beyond_between}

-- ---- one step

-- a draft with a tree that doesn't hold a node
pub record IsApart (a k : ℕ) (w : Working) : Type 0 where
  pub ready : IsReady w
  pub there : has a w.forest ≡ true
  pub out : is_within w.forest a k ≡ false

-- the tree is as it was, and still apart
pub record Keeps (a k : ℕ) (w v : Working) : Type 0 where
  pub same : alone a v.forest ≡ alone a w.forest
  pub apart : IsApart a k v

pub keeps : (a k : ℕ) (w v : Working) → IsApart a k w → IsReady v → alone a v.forest ≡ alone a w.forest → Keeps a k w v
keeps a k w v apart ready same = record {
  same = same;
  apart = record {
    ready = ready;
    there = sym (is_within-self v.forest a) ∙ ap (has a) same ∙ is_within-self w.forest a ∙ apart.there;
    out = ap (has k) same ∙ apart.out;
  };
}

pub keeps_then : (a k : ℕ) (w u v : Working) → Keeps a k w u → Keeps a k u v → Keeps a k w v
keeps_then a k w u v x y = record { same = y.same ∙ x.same; apart = y.apart }

other_key : (f : Forest) (a b : ℕ) → has a f ≡ true → has b f ≡ false → a ≢ b
other_key f a b there free same = absurd (let two : true ≡ false = sym there ∙ ap (λ q. has q f) same ∙ free in cc)

pub keeps_new : (a k : ℕ) (kind : Kind) (x : Fields) (w v : Working) → IsApart a k w → new_step kind x w ≡ Ok v → Keeps a k w v
unfolding new_step
keeps_new a k kind x w v apart e =
    let told = answered (over_limits (characters_of x) w) (made kind x w) v e in
    let free : has w.next_key w.forest ≡ false = apart.ready.free w.next_key (omega arith) in
    keeps a k w v apart (covered-new kind x w v apart.ready e).ready
    (rw (← told.1) (alone-with_new (record { key = w.next_key; kind = kind; fields = x }) w.forest a (other_key w.forest a w.next_key apart.there free)))

unwritten : (k : ℕ) (x : Fields) (t : Forest) → count k t ≡ 0 → with_fields k x t ≡ t
unfolding with_fields
unwritten k x nil none = refl
unwritten k x (tree l below rest) none =
    grind (arith, none, eqb_tells l.key k, unwritten k x below (omega (arith, none)), unwritten k x rest (omega (arith, none)))

keeps_splice : (a k from to : ℕ) (new : List ℕ) (w v : Working) → IsApart a k w → splice_step k from to new w ≡ Ok v → Keeps a k w v
unfolding splice_step
keeps_splice a k from to new w v apart e =
    let x : Fields = label_with_piece (label_of w.forest k) from to new in
    let told =
    answered (option_or (splice_fault k from to w.forest) (over_limits (length new) w)) (fields_written k x (length new) (splice_points k from to new) w) v
    e in
    keeps a k w v apart (covered-splice k from to new w v apart.ready e).ready
    (rw (← told.1) (alone-with_fields k x w.forest a ∙ unwritten k x (alone a w.forest) (none_of k (alone a w.forest) apart.out)))

pub keeps_behind : (a k n : ℕ) (w v : Working) → IsApart a k w → put_behind_step n k w ≡ Ok v → Keeps a k w v
keeps_behind a k n w v apart e =
    let s = behind_stands n k w v e in
    let came = put_behind_came n s.parent k s.before s.behind w v apart.ready s.are e in
    let other : k ≢ a =
    λ same. absurd (let two : true ≡ false = sym (is_within-self w.forest a ∙ apart.there) ∙ ap (is_within w.forest a) (sym same) ∙ apart.out in cc) in
    let above : is_within w.forest a s.parent ≡ false = sym (is_within-up w.forest a k s.parent apart.ready.in_order s.up other) ∙ apart.out in
    keeps a k w v apart came.covered.ready (came.trees a above)

-- ---- a text is split

keeps_pointed : (a k : ℕ) (moved : Point → Point) (w u v : Working) → Keeps a k w u → ◌≡◌ {A = Result Working Cause} (Ok (pointed moved u)) (Ok v)
    → Keeps a k w v
keeps_pointed a k moved w u v x e =
    ok (Keeps a k) w (pointed moved u) v
    (record {
      same = x.same;
      apart = record { ready = record { in_order = x.apart.ready.in_order; free = x.apart.ready.free }; there = x.apart.there; out = x.apart.out };
    }) e

keeps_tail : (a k offset : ℕ) (w v : Working) → IsApart a k w → tail_made k offset w ≡ Ok v → Keeps a k w v
unfolding tail_made
keeps_tail a k offset w v apart e =
    allowed (Keeps a k) w v (splice_fault k offset (length_at w.forest k) w.forest)
    (λ u. after (new_step Text (tail_of u.forest k offset) u) (λ made. Ok (pointed (split_moves k offset u.next_key) made))) (λ e.
    let one = first_part (new_step Text (tail_of w.forest k offset) w) (λ made. Ok (pointed (split_moves k offset w.next_key) made)) v e in
    keeps_pointed a k (split_moves k offset w.next_key) w one.0 v (keeps_new a k Text (tail_of w.forest k offset) w one.0 apart one.1) one.2) e

keeps_cut : (a k offset : ℕ) (w v : Working) → IsApart a k w → cut_in_two k offset w ≡ Ok v → Keeps a k w v
unfolding cut_in_two
keeps_cut a k offset w v apart e =
    let len : ℕ = length_at w.forest k in
    let one = first_part (tail_made k offset w) (λ made. after (splice_step k offset len [] made) (put_behind_step w.next_key k)) v e in
    let two = first_part (splice_step k offset len [] one.0) (put_behind_step w.next_key k) v one.2 in
    let x = keeps_tail a k offset w one.0 apart one.1 in
    let y = keeps_splice a k offset len [] one.0 two.0 x.apart two.1 in
    let z = keeps_behind a k w.next_key two.0 v y.apart two.2 in
    keeps_then a k w one.0 v x (keeps_then a k one.0 two.0 v y z)

pub keeps_split : (a k offset : ℕ) (w v : Working) → IsApart a k w → split_step k (offset ∷ []) w ≡ Ok v → Keeps a k w v
unfolding split_step
keeps_split a k offset w v apart e =
    allowed (Keeps a k) w v (split_fault k (offset ∷ []) w.forest) (cut_at k 0 (offset ∷ [])) (λ e.
    let one = first_part (cut_in_two k (offset - 0) w) (cut_at w.next_key offset []) v e in
    ok (Keeps a k) w one.0 v (keeps_cut a k (offset - 0) w one.0 apart one.1) one.2) e

-- what is done only in one case, and else leaves the draft
pub if_taken : (R : Working → Working → Type 0) (b : Bool) (r : Result Working Cause) (w v : Working) → R w w → (r ≡ Ok v → R w v) → cond b r (Ok w) ≡ Ok v
    → R w v
if_taken R true r w v same taken e = taken e
if_taken R false r w v same taken e = ok R w w v same e

-- a tree that doesn't hold the node of the point
pub opened_stays : (a : ℕ) (p : Point) (w v : Working) → IsApart a p.key w → opened p w ≡ Ok v → alone a v.forest ≡ alone a w.forest
opened_stays a p w v apart e =
    if_taken (λ w v. alone a v.forest ≡ alone a w.forest) (is_inside w.forest p p.kind && is_some (normal_at w.forest p.key))
    (split_step p.key (p.offset ∷ []) w) w v refl (λ e. (keeps_split a p.key p.offset w v apart e).same) e

-- ---- taken out, and put at an end

taken_apart : (a m : ℕ) (f : Forest) → IsForest f → is_within f a m ≡ false → alone a (take_out m f) ≡ alone a f
taken_apart a m f h out = elim (cases_Bool (is_within f m a)) [
  | inl inside ↦ alone-take_out_inside a m f h inside
  | inr outside ↦ alone-take_out_outside a m f outside ∙ without-absent key_of m (alone a f) (none_of m (alone a f) out)
]

keeps_take : (a n m : ℕ) (w v : Working) → IsApart a n w → is_within w.forest a m ≡ false → take_step m w ≡ Ok v → Keeps a n w v
keeps_take a n m w v apart out e =
    keeps a n w v apart (covered-take m w v apart.ready e).ready (ap (alone a) (taken-forest m w v e) ∙ taken_apart a m w.forest apart.ready.in_order out)

keeps_end : (a n m index : ℕ) (w v : Working) → IsApart a n w → put_step m n index w ≡ Ok v → Keeps a n w v
keeps_end a n m index w v apart e =
    let s = put_stands m n index w v e in
    let came = put_came m n index s.before s.behind w v apart.ready s.are s.so_many e in
    keeps a n w v apart came.covered.ready (came.trees a apart.out)

keeps_moved : (a n m : ℕ) (w v : Working) → IsApart a n w → is_within w.forest a m ≡ false → moved_to_end n m w ≡ Ok v → Keeps a n w v
unfolding moved_to_end
keeps_moved a n m w v apart out e =
    let one = first_part (take_step m w) (λ u. put_step m n (size_of u.forest n) u) v e in
    let x = keeps_take a n m w one.0 apart out one.1 in
    keeps_then a n w one.0 v x (keeps_end a n m (size_of (one.0).forest n) one.0 v x.apart one.2)

pub keeps_all : (ms : List ℕ) (a n : ℕ) (w v : Working) → IsApart a n w → ((m : ℕ) → is_among m ms ≡ true → is_within w.forest a m ≡ false)
    → in_turn (moved_to_end n) ms w ≡ Ok v → Keeps a n w v
unfolding in_turn
keeps_all [] a n w v apart out e = ok (Keeps a n) w w v (record { same = refl; apart = apart }) e
keeps_all (m ∷ ms) a n w v apart out e =
    let one = first_part (moved_to_end n m w) (in_turn (moved_to_end n) ms) v e in
    let x = keeps_moved a n m w one.0 apart (out m (grind (arith, eqb_tells m m))) one.1 in
    keeps_then a n w one.0 v x (keeps_all ms a n one.0 v x.apart (λ q among. ap (has q) x.same ∙ out q (grind (arith, among))) one.2)

-- ---- the new block

-- a key that isn't there is in no tree
pub nowhere : (f : Forest) (a n : ℕ) → has n f ≡ false → is_within f a n ≡ false
nowhere f a n free = ap (λ m. ltb 0 m) (none (none_of n f free)) where
  none : count n f ≡ 0 → count n (alone a f) ≡ 0
  none all = omega (arith, all, count-without-alone key_of n a f)

pub keeps_like : (a : ℕ) (l : Option Label) (w v : Working) → IsApart a w.next_key w → new_like l w ≡ Ok v → Keeps a w.next_key w v
keeps_like a None w v apart e = ok (Keeps a w.next_key) w w v (record { same = refl; apart = apart }) e
keeps_like a (Some l) w v apart e = keeps_new a w.next_key l.kind l.fields w v apart e

tail_keeps : (a block : ℕ) (moved : List ℕ) (w : Working) (t : Tailed) → IsReady w → has a w.forest ≡ true
    → ((m : ℕ) → is_among m moved ≡ true → is_within w.forest a m ≡ false) → block_tail block moved w ≡ Ok t
    → alone a (t.draft).forest ≡ alone a w.forest
tail_keeps a block [] w t ready there out e = cc
tail_keeps a block (k ∷ ks) w t ready there out e =
    let n : ℕ = w.next_key in
    let all : Working → Result Working Cause = in_turn (moved_to_end n) (k ∷ ks) in
    let left : Working → Result Tailed Cause = λ v. Ok (record { draft = v; key = Some n }) in
    let one = after_tells (new_like (label_of w.forest block) w) (λ made. after (all made) left) t e in
    let two = after_tells (all one.0) left t one.1.1 in
    let apart : IsApart a n w = record { ready = ready; there = there; out = nowhere w.forest a n (ready.free n (omega arith)) } in
    let x = keeps_like a (label_of w.forest block) w one.0 apart one.1.0 in
    let y = keeps_all (k ∷ ks) a n one.0 two.0 x.apart (λ m among. ap (has m) x.same ∙ out m among) two.1.0 in
    let same : alone a (two.0).forest ≡ alone a w.forest = y.same ∙ x.same in
    let is = two.1.1 in
    cc

-- ---- the old block goes

removed_keeps : (above : List ℕ) (a x : ℕ) (w v : Working) → IsForest w.forest → ((q : ℕ) → is_among q (x ∷ above) ≡ true → is_within w.forest a q ≡ false)
    → removed x above w ≡ Ok v → alone a v.forest ≡ alone a w.forest
removed_keeps [] a x w v h out e =
    ap (alone a) (taken-forest x (sent_away x w) v e ∙ ap (take_out x) (sent_away-forest x w))
    ∙ taken_apart a x w.forest h (out x (grind (arith, eqb_tells x x)))
removed_keeps (p ∷ above) a x w v h out e =
    let next : Working → Result Working Cause = λ u. cond (goes_too (kind_of w.forest x) u.forest p) (removed p above u) (Ok u) in
    let one = first_part (take_step x (sent_away x w)) next v e in
    let forest : (one.0).forest ≡ take_out x w.forest = taken-forest x (sent_away x w) one.0 one.1 ∙ ap (take_out x) (sent_away-forest x w) in
    let same : alone a (one.0).forest ≡ alone a w.forest = ap (alone a) forest ∙ taken_apart a x w.forest h (out x (grind (arith, eqb_tells x x))) in
    if_taken (λ w v. alone a v.forest ≡ alone a w.forest) (goes_too (kind_of w.forest x) (one.0).forest p) (removed p above one.0) one.0 v refl
    (removed_keeps above a p one.0 v (subst IsForest (sym forest) (IsForest-take_out x w.forest h)) (λ q among. ap (has q) same ∙ out q (grind (arith, among))))
    one.2
    ∙ same

-- what is above a node outside a tree is outside it too
pub above_out : (a q k : ℕ) (f : Forest) → IsForest f → has k f ≡ true → is_within f a k ≡ false → is_among q (k ∷ ancestors f k) ≡ true
    → is_within f a q ≡ false
above_out a q k f h there out among = elim (cases_Bool (is_within f a q)) [
  | inl is ↦ absurd (let two : true ≡ false = sym (is_within-trans f a q k h is (is_within-ancestors f q k h there ∙ among)) ∙ out in cc)
  | inr is ↦ is
]

empty_keeps : (a block : ℕ) (w v : Working) → IsForest w.forest → has block w.forest ≡ true → is_within w.forest a block ≡ false → removed_empty block w ≡ Ok v
    → alone a v.forest ≡ alone a w.forest
unfolding removed_empty remove_step
empty_keeps a block w v h there out e =
    if_taken (λ w v. alone a v.forest ≡ alone a w.forest) (eqb (size_of w.forest block) 0) (removed block (ancestors w.forest block) w) w v refl
    (λ e. removed_keeps (ancestors w.forest block) a block w v h (λ q among. above_out a q block w.forest h there out among) e) e

-- ---- all of it

pub around_trees : (block : ℕ) (keys moved : List ℕ) (w v : Working) → IsReady w → ((k : ℕ) → is_among k keys ≡ true → IsOutside k block moved w.forest)
    → put_around block keys moved w ≡ Ok v
    → (k : ℕ) → is_among k keys ≡ true → alone k v.forest ≡ alone k w.forest
around_trees block [] moved w v ready outside e k among = absurd (cc)
around_trees block (x ∷ xs) moved w v ready outside e k among =
    let keys : List ℕ = x ∷ xs in
    let known = around_between block keys moved w v ready (λ none. absurd (cc)) e in
    let a = known.said in
    let b = a.beyond in
    let own = outside k among in
    let first : alone k (a.tailed.draft).forest ≡ alone k w.forest = tail_keeps k block moved w a.tailed ready own.there own.not_moved a.parted in
    let second : alone k (a.put).forest ≡ alone k (a.tailed.draft).forest =
    b.between.trees k (is_among-append k keys (key_if a.tailed.key) ∙ ap (λ t. t || is_among k (key_if a.tailed.key)) among) in
    let child =
    is_child (a.put).forest b.parent block b.before ((keys ++ key_if a.tailed.key) ++ b.rest) known.order
    (b.between.now ∙ append_assoc b.before (block ∷ []) ((keys ++ key_if a.tailed.key) ++ b.rest)) in
    empty_keeps k block a.put v known.order (has-child (a.put).forest block b.parent child.up) (ap (has block) (second ∙ first) ∙ own.not_block) a.last ∙ second
    ∙ first

pub pasted_stand_between : PastedStandBetween
pasted_stand_between = record {
  inlines = inlines_between;
  around = λ block keys moved w v ready some e. (around_between block keys moved w v ready some e).said;
  trees = around_trees;
  beyond = beyond_between;
}
