-- A slice is read back, and what is copied stands pasted, whatever way it goes.
use Rattle.std.proofs.Common.{◌≡◌, ◌∙◌, true, codes, Some, Result, Ok, Err, refl, ap, sym, subst, ℕ, ◌<◌, Bool, false, eqb, ltb, List, [], ◌∷◌, ap₂, arith, inl, inr, cond, Option, None}
use Rattle.serde_json.specs.Data.{array, Data}
use Rattle.lx_node.specs.declared.cause.Cause.{Cause}
use Rattle.lx_select.specs.declared.selection.Selection.{Selection}
use Rattle.lx_forest.specs.Forest.{Forest}
use Rattle.lx_draft.specs.Working.{Working, TextsAreShort}
use Rattle.lx_draft.specs.Covering.{IsReady}
use Rattle.lx_draft.specs.Faults.{after, over_counts, over_limits, put_fault}
use Rattle.lx_json.specs.Exporting.{trees_data}
use Rattle.lx_json.specs.Back.{pieces_of}
use Rattle.lx_json.specs.Nodes.{Made, nodes_made, nodes_read}
use Rattle.lx_json.proofs.BackKeys.{pieces-keyed}
use Rattle.lx_clip.specs.Copies.{IsCopy}
use Rattle.lx_clip.specs.Slices.{slice_data}
use Rattle.lx_clip.specs.Pasting.{begins_inline, placed, insert_step, nodes_added, block_opened, put_beyond, outer_block, blocks_added, holder, placed_at, json_of, paste_step}
use Rattle.lx_clip_laws.specs.Copies.{slice_read, is_limit, IsReadBack, SlicesAreReadBack}
use Rattle.lx_clip_laws.proofs.Growing.{Makes, makes_under, key_low, AreMade, nodes_make, held_good}
use Rattle.lx_clip_laws.proofs.Covering.{copy_readable}
use Rattle.std.specs.Option.{option_or}
use Rattle.lx_node.specs.Strings.{characters_of}
use Rattle.lx_node.specs.declared.kind.Kind.{Kind}
use Rattle.lx_node.specs.declared.fields.Fields.{Fields}
use Rattle.lx_node.specs.declared.cause.Point.{Point}
use Rattle.lx_select.specs.Rules.{put_moves}
use Rattle.lx_forest.specs.Lookups.{has, key_of, count, alone, trees_of, is_within, ancestors, is_attached, IsForest, IsHeld}
use Rattle.lx_draft.specs.Steps.{made, new_step, node_placed, put_step}
use Rattle.lx_draft.proofs.Covered.{answered}
use Rattle.lx_caret.specs.Lying.{EachPoint}
use Rattle.lx_caret.proofs.Fit.{each_moved, key_of_put, each_still, after_tells}
use Rattle.lx_clip.proofs.PathsOfNodes.{IsMaking, nodes_read_path}
use Rattle.std.proofs.lemmas.Bool.{cases_Bool}
use Rattle.std.proofs.lemmas.Bool.Decides.{eqb_tells}
use Rattle.lx_trees.specs.Trees.{joined}
use Rattle.lx_trees.specs.Siblings.{is_among}
use Rattle.lx_trees.proofs.NamedTrees.{count-joined}
use Rattle.lx_forest.proofs.Within.{is_within-self}
use Rattle.lx_json.proofs.Grown.{keyed-low}
use Rattle.lx_clip_laws.specs.Pastes.{IsCopied, IsInserted, IsPasted, CopiesArePasted}
use Rattle.lx_clip_laws.proofs.Pasted.{inlines_between, beyond_between}
use Rattle.lx_clip_laws.proofs.Staying.{opened_stays, above_out}
use Rattle.lx_clip_laws.proofs.Parting.{opened_trees}
use Rattle.lx_node.specs.Kinds.{is_text_block, may_hold}
use Rattle.lx_select.specs.declared.selection.Selection.TheVariants.{Range}
use Rattle.lx_draft.specs.Selecting.{lies_in}
use Rattle.lx_blocks.specs.Blocks.{is_at, block_of}
use Rattle.lx_blocks.specs.Ranges.{lies, at_anchor_of}
use Rattle.lx_caret.specs.Removing.{remove_text_step}
use Rattle.lx_caret.proofs.Breaks.{attached_known}
use Rattle.lx_caret.proofs.Cleared.{remove_text_fits}
use Rattle.lx_caret.proofs.Lies.{both}
use Rattle.lx_caret.proofs.Selected.{found_among}

-- ---- read back

pub slice_makes : (c : Forest) (w : Working) → IsCopy c → IsReady w → Makes (AreMade (pieces_of c) w) (slice_read c w)
unfolding nodes_read
slice_makes c w copy ready =
    let r = copy_readable c copy in
    subst (λ kind. Makes (AreMade (pieces_of c) w) (nodes_read (codes "/nodes") (array (trees_data c)) kind w)) (sym r.holds)
    (makes_under (AreMade (pieces_of c) w) (codes "/nodes") (nodes_made (trees_data c) 0 r.kind w)
    (nodes_make c 0 r.kind w (held_good r.kind c r.held copy.back) ready))

pub made_by : {A : Type 0} (P : A → Type 0) (r : Result A Cause) (a : A) → r ≡ Ok a → Makes P r → P a
made_by P (Ok b) a e m = subst P (let same : b ≡ a = cc in same) m
made_by P (Err cause) a e m = absurd (cc)

refused_by : {A : Type 0} (P : A → Type 0) (r : Result A Cause) (cause : Cause) → r ≡ Err cause → Makes P r → is_limit cause ≡ true
refused_by P (Ok a) cause e m = absurd (cc)
refused_by P (Err other) cause e m = ap is_limit (let same : cause ≡ other = cc in same) ∙ m

pub read_back : (c : Forest) (w : Working) (made : Made) → IsReady w → AreMade (pieces_of c) w made → IsReadBack c w made
read_back c w made ready m = record {
  same = ap pieces_of m.are ∙ pieces-keyed w.next_key (pieces_of c);
  stays = λ q there. m.stays q (key_low q w ready there);
}

pub inserts : (c : Forest) (w : Working)
    → insert_step (slice_data c) w ≡ after (slice_read c w) (λ made. placed (begins_inline (trees_data c)) made.keys made.draft)
unfolding insert_step
inserts c w = refl

pub slices_are_read_back : SlicesAreReadBack
slices_are_read_back = record {
  back = λ c w made copy ready e. read_back c w made ready (made_by (AreMade (pieces_of c) w) (slice_read c w) made e (slice_makes c w copy ready));
  refused = λ c w cause copy ready e. refused_by (AreMade (pieces_of c) w) (slice_read c w) cause e (slice_makes c w copy ready);
  inserted = inserts;
}

-- ---- points at nodes that were there

-- a point at a node of some forest
abbrev pub IsKnown : Forest → Point → Type 0
IsKnown f p = has p.key f ≡ true

-- points at nodes of a forest stay at such
pub record StaysKnown (f : Forest) (w v : Working) : Type 0 where
  pub points : EachPoint (IsKnown f) w.selection → EachPoint (IsKnown f) v.selection

known_new : (f : Forest) (kind : Kind) (x : Fields) (w v : Working) → new_step kind x w ≡ Ok v → StaysKnown f w v
unfolding new_step
known_new f kind x w v e =
    let told = answered (over_limits (characters_of x) w) (made kind x w) v e in
    subst (StaysKnown f w) told.1 (record { points = λ known. known })

known_put : (f : Forest) (k p index : ℕ) (w v : Working) → put_step k p index w ≡ Ok v → StaysKnown f w v
unfolding put_step
known_put f k p index w v e =
    let told = answered (option_or (put_fault k p index w.forest) (over_counts w)) (node_placed k p index w) v e in
    subst (StaysKnown f w) told.1
    (record {
      points = λ known. each_moved (IsKnown f) (IsKnown f) (put_moves p index) w.selection (λ x is. ap (λ q. has q f) (key_of_put p index x) ∙ is)
          known;
    })

pub known_making : (f : Forest) → IsMaking (λ w. Unit {0}) (StaysKnown f)
known_making f = record {
  ready = λ w v x. tt;
  same = λ w r. record { points = λ known. known };
  composed = λ u v w x y. record { points = λ known. y.points (x.points known) };
  new = λ kind fields w v r e. known_new f kind fields w v e;
  put = λ k p index w v r e. known_put f k p index w v e;
}

-- ---- the trees that were made

trees_same : (g h : Forest) (ks : List ℕ) → ((k : ℕ) → is_among k ks ≡ true → alone k g ≡ alone k h) → trees_of g ks ≡ trees_of h ks
trees_same g h [] same = refl
trees_same g h (k ∷ ks) same = ap₂ joined (same k (grind (arith, eqb_tells k k))) (trees_same g h ks (λ q among. same q (grind (arith, among))))

-- a key that is in none of these trees is in no one of them
in_none : (g : Forest) (ks : List ℕ) (k q : ℕ) → is_among k ks ≡ true → count q (trees_of g ks) ≡ 0 → count q (alone k g) ≡ 0
in_none g [] k q among none = absurd (cc)
in_none g (x ∷ ks) k q among none = elim (cases_Bool (eqb x k)) [
  | inl is ↦ let same : x ≡ k = grind (arith, is, eqb_tells x k) in rw (← same) (omega (arith, none, count-joined key_of q (alone x g) (trees_of g ks)))
  | inr is ↦ in_none g ks k q (rw is at among) (omega (arith, none, count-joined key_of q (alone x g) (trees_of g ks)))
]

pub copied_made : (c : Forest) (w : Working) (made : Made) → IsCopied c w made → AreMade (pieces_of c) w made
copied_made c w made copied =
    made_by (AreMade (pieces_of c) w) (slice_read c w) made copied.read (slice_makes c w copied.copy copied.ready)

-- the new trees hold no node that was there before
pub old_outside : (c : Forest) (w : Working) (made : Made) (k q : ℕ) → AreMade (pieces_of c) w made → q < w.next_key → is_among k made.keys ≡ true
    → is_within made.draft.forest k q ≡ false
old_outside c w made k q m low among =
    let none : count q (trees_of made.draft.forest made.keys) ≡ 0 = ap (count q) m.are ∙ keyed-low w.next_key q (pieces_of c) low in
    ap (λ n. ltb 0 n) (in_none made.draft.forest made.keys k q among none)

-- each of these trees is the same in two drafts
abbrev AreSame : List ℕ → Working → Working → Type 0
AreSame keys w v = (k : ℕ) → is_among k keys ≡ true → alone k v.forest ≡ alone k w.forest

-- whatever leaves each of the trees leaves what was read
still_same : (c : Forest) (w : Working) (made : Made) (v : Working) → IsCopied c w made → AreSame made.keys made.draft v
    → pieces_of (trees_of v.forest made.keys) ≡ pieces_of c
still_same c w made v copied same =
    ap pieces_of (trees_same v.forest made.draft.forest made.keys same) ∙ (read_back c w made copied.ready (copied_made c w made copied)).same

pub added_same : (keys : List ℕ) (p : Point) (w v : Working) → IsReady w
    → ((k : ℕ) → is_among k keys ≡ true → (has k w.forest ≡ true) × (is_within w.forest k p.key ≡ false)) → nodes_added p keys w ≡ Ok v → AreSame keys w v
added_same [] p w v ready apart e k among = absurd (cc)
added_same (x ∷ xs) p w v ready apart e k among =
    let a = inlines_between p (x ∷ xs) w v ready (λ none. absurd (cc)) e in
    let out = apart k among in
    a.between.trees k among ∙ opened_stays k p w a.split (record { ready = ready; there = out.0; out = out.1 }) a.made_way

pub beyond_same : (keys : List ℕ) (outer : ℕ) (w v : Working) → IsReady w → put_beyond outer keys w ≡ Ok v → AreSame keys w v
beyond_same [] outer w v ready e k among = absurd (cc)
beyond_same (x ∷ xs) outer w v ready e k among = (beyond_between outer (x ∷ xs) w v ready (λ none. absurd (cc)) e).between.trees k among

-- what was there before is there, with what was read
pub old_there : (c : Forest) (w : Working) (made : Made) (q : ℕ) → AreMade (pieces_of c) w made → IsReady w → has q w.forest ≡ true
    → has q made.draft.forest ≡ true
old_there c w made q m ready there =
    sym (is_within-self made.draft.forest q) ∙ ap (has q) (m.stays q (key_low q w ready there)) ∙ is_within-self w.forest q ∙ there

-- ---- at a point of a node that was there

inlines_same : (c : Forest) (w : Working) (made : Made) (p : Point) (v : Working) → AreMade (pieces_of c) w made → IsReady w → IsKnown w.forest p
    → nodes_added p made.keys made.draft ≡ Ok v → AreSame made.keys made.draft v
inlines_same c w made p v m ready known e =
    added_same made.keys p made.draft v m.covered.ready
    (λ k among. ((m.tops k among).there, old_outside c w made k p.key m (key_low p.key w ready known) among)) e

-- between the parts of a block that no tree holds
around_same : (c : Forest) (w : Working) (made : Made) (block : ℕ) (p : Point) (v : Working) → AreMade (pieces_of c) w made → IsReady w → IsKnown w.forest p
    → ((k : ℕ) → is_among k made.keys ≡ true → is_within made.draft.forest k block ≡ false) → block_opened block p made.keys made.draft ≡ Ok v
    → AreSame made.keys made.draft v
around_same c w made block p v m ready known off e =
    opened_trees block p made.keys made.draft v (old_there c w made p.key m ready known) (λ k among. record {
      loose = record { ready = m.covered.ready; there = (m.tops k among).there; top = (m.tops k among).top };
      not_block = off k among;
      not_point = old_outside c w made k p.key m (key_low p.key w ready known) among;
    }) e

blocks_same : (c : Forest) (w : Working) (made : Made) (p : Point) (v : Working) (block : Option ℕ) → AreMade (pieces_of c) w made → IsReady w
    → IsKnown w.forest p → block_of made.draft.forest p.key ≡ block
    → blocks_added block p made.keys made.draft ≡ Ok v → AreSame made.keys made.draft v
blocks_same c w made p v None m ready known is e = inlines_same c w made p v m ready known e
blocks_same c w made p v (Some block) m ready known is e = by_test (eqb (outer_block f block) block) e where
  f : Forest
  f = made.draft.forest

  above : is_among block (p.key ∷ ancestors f p.key) ≡ true
  above = found_among (is_at is_text_block f) (p.key ∷ ancestors f p.key) block is

  off : (k : ℕ) → is_among k made.keys ≡ true → is_within f k block ≡ false
  off k among =
      above_out k block p.key f m.covered.ready.in_order (old_there c w made p.key m ready known)
      (old_outside c w made k p.key m (key_low p.key w ready known) among) above

  by_test : (b : Bool) → cond b (block_opened block p made.keys made.draft) (put_beyond (outer_block f block) made.keys made.draft) ≡ Ok v
      → AreSame made.keys made.draft v
  by_test true e = around_same c w made block p v m ready known off e
  by_test false e = beyond_same made.keys (outer_block f block) made.draft v m.covered.ready e

point_same : (c : Forest) (w : Working) (made : Made) (inline : Bool) (p : Point) (format : ℕ) (v : Working) → AreMade (pieces_of c) w made → IsReady w
    → IsKnown w.forest p → placed_at inline made.keys p format made.draft ≡ Ok v → AreSame made.keys made.draft v
point_same c w made true p format v m ready known e = inlines_same c w made p v m ready known e
point_same c w made false p format v m ready known e = blocks_same c w made p v (block_of made.draft.forest p.key) m ready known refl e

-- ---- at the caret

anchor_same : (c : Forest) (w : Working) (made : Made) (inline : Bool) (s : Selection) (v : Working) → AreMade (pieces_of c) w made → IsReady w
    → EachPoint (IsKnown w.forest) s → at_anchor_of s (placed_at inline made.keys) made.draft ≡ Ok v
    → AreSame made.keys made.draft v
anchor_same c w made inline (Range a b format) v m ready known e = point_same c w made inline a format v m ready known.0 e
anchor_same c w made inline _ v m ready known e = absurd (cc)

placed_same : (c : Forest) (w : Working) (made : Made) (inline : Bool) (v : Working) (keys : List ℕ) → AreMade (pieces_of c) w made → IsReady w
    → EachPoint (IsKnown w.forest) made.draft.selection → made.keys ≡ keys → placed inline keys made.draft ≡ Ok v
    → AreSame made.keys made.draft v
placed_same c w made inline v [] m ready known is e = λ k among. absurd (let none : is_among k [] ≡ true = sym (ap (is_among k) is) ∙ among in cc)
placed_same c w made inline v (k ∷ ks) m ready known is e =
    anchor_same c w made inline made.draft.selection v m ready known (ap (λ keys. at_anchor_of made.draft.selection (placed_at inline keys) made.draft) is ∙ e)

-- ---- the whole

insert_pasted : (c : Forest) (w v : Working) → IsCopy c → IsReady w → EachPoint (IsKnown w.forest) w.selection → insert_step (slice_data c) w ≡ Ok v
    → IsInserted c w v
insert_pasted c w v copy ready known e =
    let inline : Bool = begins_inline (trees_data c) in
    let first = after_tells {A = Made} {B = Working} (slice_read c w) (λ made. placed inline made.keys made.draft) v (sym (inserts c w) ∙ e) in
    let made : Made = first.0 in
    let copied : IsCopied c w made = record { copy = copy; ready = ready; read = first.1.0 } in
    let now = (nodes_read_path (known_making w.forest) (codes "/nodes") (array (trees_data c)) (holder inline) w made tt first.1.0).points known in
    record {
      made = made;
      read = first.1.0;
      same = still_same c w made v copied (placed_same c w made inline v made.keys (copied_made c w made copied) ready now refl first.1.1);
    }

lying_known : (f : Forest) (p : Point) → IsForest f → lies f p ≡ true → IsKnown f p
lying_known f p h lying = attached_known f p.key h (both (is_attached f p.key) (lies_in f p) lying).0

paste_pasted : (c : Forest) (text : List ℕ) (w v : Working) → IsCopy c → json_of text ≡ Ok (slice_data c) → IsReady w → IsHeld may_hold w.forest
    → TextsAreShort w → paste_step text w ≡ Ok v → IsPasted c w v
unfolding paste_step
paste_pasted c text w v copy json ready held short e =
    let first = after_tells (remove_text_step w) (λ u. after (json_of text) (λ d. insert_step d u)) v e in
    let u : Working = first.0 in
    let fit = remove_text_fits w u ready held short first.1.0 in
    let known =
    each_still (λ p. lies u.forest p ≡ true) (IsKnown u.forest) u.selection (λ p lying. lying_known u.forest p fit.ready.in_order lying) fit.lying in
    let step : insert_step (slice_data c) u ≡ Ok v = sym (ap (λ (r : Result Data Cause). after r (λ d. insert_step d u)) json) ∙ first.1.1 in
    record { removed = u; first = first.1.0; inserted = insert_pasted c u v copy fit.ready known step }

pub copies_are_pasted : CopiesArePasted
copies_are_pasted = record {
  inlines = λ c w made p v copied there e. still_same c w made v copied (inlines_same c w made p v (copied_made c w made copied) copied.ready there e);
  around = λ c w made block p v copied block_there there e.
      let m = copied_made c w made copied in
      let off : (k : ℕ) → is_among k made.keys ≡ true → is_within made.draft.forest k block ≡ false =
      λ k among. old_outside c w made k block m (key_low block w copied.ready block_there) among in
      still_same c w made v copied (around_same c w made block p v m copied.ready there off e);
  beyond = λ c w made outer v copied e. still_same c w made v copied (beyond_same made.keys outer made.draft v (copied_made c w made copied).covered.ready e);
  inserted = insert_pasted;
  pasted = paste_pasted;
}
