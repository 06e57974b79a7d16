-- The caret is right after what was added at it.
use Rattle.lx_blocks.specs.Blocks.{is_at}
use Rattle.lx_blocks.specs.Ranges.{at_anchor, at_anchor_of, caret_at, if_normal, lies, normal_at}
use Rattle.lx_caret.proofs.Fit.{after_tells}
use Rattle.lx_caret.proofs.Lies.{both, text_at}
use Rattle.lx_caret.proofs.Made as made
use Rattle.lx_caret.proofs.Short.{u32-tells, written-allowed}
use Rattle.lx_caret.specs.Adding.{add_step, is_inside, kind_around, newest, no_room, opened, put_by}
use Rattle.lx_caret.specs.Inserting.{behind_at, broken, insert_line_break_step, insert_tab_step, insert_text_step, is_of_format, place_behind, style_in, tab_fields, tabbed, typed, typed_into, typed_new}
use Rattle.lx_caret.specs.Removing.{remove_text_step}
use Rattle.lx_caret_laws.proofs.AtCaret.{at_caret}
use Rattle.lx_caret_laws.proofs.EditedIn.{edited_at, place_leaf}
use Rattle.lx_caret_laws.proofs.FormatKept.{InFormat, add_kept, caret_set}
use Rattle.lx_caret_laws.proofs.Opened.{IsOpened, opened_tells}
use Rattle.lx_caret_laws.proofs.Placed.{IsBeside, label_new, put_after, put_ahead, put_placed}
use Rattle.lx_caret_laws.proofs.PlacesAfter.{IsFurther, further_above}
use Rattle.lx_caret_laws.proofs.ReadLevels.{read-leaf}
use Rattle.lx_caret_laws.proofs.Spliced.{text_of_normal}
use Rattle.lx_caret_laws.proofs.Stands as stands
use Rattle.lx_caret_laws.proofs.Stands.{after_leaf, ahead_further, around_further, fresh, inside_around, inside_further, up_inside, up_new}
use Rattle.lx_caret_laws.proofs.TypedAll.{at_point_of, counts_text, fields_typed, not_empty, of_format_tells}
use Rattle.lx_caret_laws.proofs.TypedIn.{is_read}
use Rattle.lx_caret_laws.specs.Carets.{IsSound}
use Rattle.lx_caret_laws.specs.Following.{CaretFollows, IsAfterBreak, IsRightAfter, TypesOn}
use Rattle.lx_caret_laws.specs.Reading.{place_in, read_in}
use Rattle.lx_caret_laws.specs.Typing.{IsCaretAt, IsTyped}
use Rattle.lx_draft.proofs.Covered.{answered}
use Rattle.lx_draft.proofs.Short.{length-few}
use Rattle.lx_draft.proofs.Touched.{is_some-kind_of}
use Rattle.lx_draft.specs.Beside.{put_before_step, put_behind_step}
use Rattle.lx_draft.specs.Faults.{after, answer, over_limits, text_in}
use Rattle.lx_draft.specs.Selecting.{is_counted_in, is_place, length_told, lies_in, text_of}
use Rattle.lx_draft.specs.Steps as steps
use Rattle.lx_draft.specs.Steps.{new_step}
use Rattle.lx_draft.specs.Working.{Working}
use Rattle.lx_edit.proofs.Keyed.{new-next_key}
use Rattle.lx_edit.specs.Edits.{element_point, text_point}
use Rattle.lx_edit.specs.Texts.{has_no_text}
use Rattle.lx_edit_laws.proofs.Reading.{childless_text}
use Rattle.lx_edit_laws.proofs.WrapSteps.{was_same}
use Rattle.lx_forest.proofs.Lookups.{has-parent_of, is_among-children_of}
use Rattle.lx_forest.proofs.Within.{is_within-self}
use Rattle.lx_forest.specs.Forest.{Forest, Label}
use Rattle.lx_forest.specs.Lookups.{IsForest, children_below, children_of, has, index_of, is_attached, is_within, kind_of, label_of, parent_of, size_of}
use Rattle.lx_node.specs.Kinds.{is_element}
use Rattle.lx_node.specs.Limits.{last_u32, most_written}
use Rattle.lx_node.specs.OfKind.{is_normal}
use Rattle.lx_node.specs.Strings.{characters_of, characters_of_text}
use Rattle.lx_node.specs.Units.{units, units_of}
use Rattle.lx_node.specs.declared.cause.Cause.{Cause}
use Rattle.lx_node.specs.declared.cause.Point.{Point}
use Rattle.lx_node.specs.declared.cause.PointKind.TheVariants as point
use Rattle.lx_node.specs.declared.cause.PointKind.{PointKind}
use Rattle.lx_node.specs.declared.fields.Fields.TheVariants as fields
use Rattle.lx_node.specs.declared.fields.Fields.{Fields}
use Rattle.lx_node.specs.declared.fields.TextFields.{TextFields}
use Rattle.lx_node.specs.declared.kind.Kind.TheVariants as kinds
use Rattle.lx_node.specs.declared.kind.Kind.{Kind}
use Rattle.lx_select.specs.declared.selection.Selection.TheVariants.{Range}
use Rattle.lx_text.proofs.Told.{told-all}
use Rattle.lx_text.specs.Texts.{front_of, rest_of, text_length}
use Rattle.lx_trees.proofs.Siblings.{is_some-index_in}
use Rattle.lx_trees.specs.Siblings.{index_in, is_among}
use Rattle.std.proofs.Common.{Bool, List, None, Ok, Option, Result, Some, [], ap, ap₂, arith, cond, false, inl, inr, length, option_map, refl, subst, sym, true, ℕ, ◌++◌, ◌+◌, ◌∙◌, ◌∷◌, ◌≡◌, ◌≢◌, ◌≤◌}
use Rattle.std.proofs.lemmas.Bool.Decides.{eqb_tells, nat_tests}
use Rattle.std.specs.Prelude.{is_some}

-- ---- a node that was added

-- a new node with these fields came at a point: where its end is, as a point in it and as one behind it
pub record IsSet (new : List ℕ) (p : Point) (kind : Kind) (x : Fields) (w v : Working) : Type 0 where
  pub parent : ℕ
  pub fresh : has (newest v) w.forest ≡ false
  pub label : label_of v.forest (newest v) ≡ Some (record { key = newest v; kind = kind; fields = x })
  pub up : parent_of v.forest (newest v) ≡ Some parent
  pub index : ℕ
  pub at : index_of v.forest (newest v) ≡ Some index
  pub in_it : (c : ℕ) → is_at is_element w.forest c ≡ true → is_within w.forest c p.key ≡ true →
      IsFurther (text_length new) p (text_point (newest v) (text_length new)) w.forest v.forest c
  pub behind : (c : ℕ) → is_at is_element w.forest c ≡ true → is_within w.forest c p.key ≡ true →
      IsFurther (text_length new) p (element_point parent (index + 1)) w.forest v.forest c

newest_is : (p : Point) (kind : Kind) (x : Fields) (s m v : Working) → new_step kind x s ≡ Ok m → put_by s.next_key p p.kind m ≡ Ok v
    → s.next_key ≡ newest v
newest_is p kind x s m v new put =
    omega (arith, new-next_key kind x s m new, made.put-next_key s.next_key p p.kind m v put)

-- the index of a child
child_index : (g : Forest) (n b : ℕ) → IsForest g → parent_of g n ≡ Some b
    → (i : ℕ) × ((index_of g n ≡ Some i) × (index_in (children_of g b) n ≡ Some i))
child_index g n b h up =
    let among : is_among n (children_of g b) ≡ true = grind (arith, is_among-children_of g n b h, up, eqb_tells b b) in
    by_index (index_in (children_of g b) n) refl (is_some-index_in (children_of g b) n ∙ among) where
      by_index : (o : Option ℕ) → index_in (children_of g b) n ≡ o → is_some o ≡ true
          → (i : ℕ) × ((index_of g n ≡ Some i) × (index_in (children_of g b) n ≡ Some i))
      by_index None is some = absurd (cc)
      by_index (Some i) is some = (i, (ap (λ q. index_in (children_below g q) n) up ∙ is, is))

-- the place behind a leaf is as far as its end
behind_further : (more : ℕ) (p : Point) (f g : Forest) (n b i : ℕ) → IsForest g → parent_of g n ≡ Some b → index_in (children_of g b) n ≡ Some i
    → children_of g n ≡ [] → text_length (read_in g n) ≡ more → IsFurther more p (text_point n more) f g b
    → IsFurther more p (element_point b (i + 1)) f g b
behind_further more p f g n b i h up at bare long further = record {
  within = is_within-self g b ∙ has-parent_of g n b up;
  place = after_leaf g n b i more h up at bare long ∙ further.place;
}

-- ---- beside a text or tab, and in an element

module _ (typed : List ℕ) (k at : ℕ) (kind : Kind) (x : Fields) (w v : Working) (sound : IsSound w) (text : text_of (Some x) ≡ typed) where
  label_read : (g : Forest) (n : ℕ) → IsForest g → children_of g n ≡ [] → label_of g n ≡ Some (record { key = n; kind = kind; fields = x })
      → text_length (read_in g n) ≡ text_length typed
  label_read g n h bare label =
      ap text_length (read-leaf g n h bare ∙ ap (λ l. text_of (option_map (λ (y : Label). y.fields) l)) label ∙ text)

  set_beside : (s : Working) (rest ks : List ℕ) (place : lies w.forest (text_point k at) ≡ true) (o : IsOpened k at rest w s)
      (b : IsBeside s.forest v.forest k s.next_key ks (label_new s kind x)) → s.next_key ≡ newest v → is_among s.next_key (ks ++ rest) ≡ true
      → IsFurther (text_length typed) (text_point k at) (text_point s.next_key (text_length typed)) w.forest v.forest b.parent
      → IsSet typed (text_point k at) kind x w v
  set_beside s rest ks place o b newest among further =
      let n : ℕ = s.next_key in
      let g : Forest = v.forest in
      let up : parent_of g n ≡ Some b.parent = up_new typed k at kind x w s v rest ks sound place text o b among in
      let i = child_index g n b.parent b.ordered up in
      let later = behind_further (text_length typed) (text_point k at) w.forest g n b.parent i.0 b.ordered up i.1.1 b.bare
      (label_read g n b.ordered b.bare b.new) further in
      record {
        parent = b.parent;
        fresh = ap (λ m. has m w.forest) (sym newest) ∙ fresh typed k at kind x w s v rest ks sound place text o b;
        label = subst (λ m. label_of g m ≡ Some (record { key = m; kind = kind; fields = x })) newest b.new;
        up = ap (parent_of g) (sym newest) ∙ up;
        index = i.0;
        at = ap (index_of g) (sym newest) ∙ i.1.0;
        in_it = λ c element over. subst (λ m. IsFurther (text_length typed) (text_point k at) (text_point m (text_length typed)) w.forest g c) newest
            (around_further typed k at kind x w s v rest ks sound place text o b (text_point n (text_length typed)) (inl refl) further c element over);
        behind = λ c element over. around_further typed k at kind x w s v rest ks sound place text o b (element_point b.parent (i.0 + 1))
            (inr refl) later c element over;
      }

  set_by_place : (s m : Working) (rest : List ℕ) → lies w.forest (text_point k at) ≡ true → IsOpened k at rest w s → new_step kind x s ≡ Ok m
      → put_by s.next_key (text_point k at) point.Text m ≡ Ok v → IsSet typed (text_point k at) kind x w v
  set_by_place s m rest place o new e = elim (eqb_tells at 0) [
    | inl start ↦
        let put : put_before_step s.next_key k m ≡ Ok v = sym
        (ap (λ t. cond t (put_before_step s.next_key k m) (put_behind_step s.next_key k m)) start.0) ∙ e in
        let b = put_ahead kind x k s m v o.stay.ready new put in
        set_beside s rest (s.next_key ∷ k ∷ []) place o b (newest_is (text_point k at) kind x s m v new e)
        (grind (arith, eqb_tells s.next_key s.next_key))
        (ahead_further typed k at kind x w s v rest (s.next_key ∷ k ∷ []) sound place text o b start.1 refl)
    | inr later ↦
        let put : put_behind_step s.next_key k m ≡ Ok v = sym
        (ap (λ t. cond t (put_before_step s.next_key k m) (put_behind_step s.next_key k m)) later.0) ∙ e in
        let b = put_after kind x k s m v o.stay.ready new put in
        set_beside s rest (k ∷ s.next_key ∷ []) place o b (newest_is (text_point k at) kind x s m v new e)
        (grind (arith, eqb_tells s.next_key s.next_key))
        (stands.behind_further typed k at kind x w s v rest (k ∷ s.next_key ∷ []) sound place text o b later.1 refl)
  ]

  pub set_there : lies w.forest (text_point k at) ≡ true
      → (is_inside w.forest (text_point k at) point.Text ≡ true → is_some (normal_at w.forest k) ≡ true)
      → add_step (text_point k at) kind x w ≡ Ok v → IsSet typed (text_point k at) kind x w v
  unfolding add_step
  set_there place may e = by_fault (no_room kind (kind_around w.forest k point.Text)) e where
    by_fault : (c : Option Cause) → after (answer c w) (λ u. after (opened (text_point k at) u)
        (λ split. after (new_step kind x split) (put_by split.next_key (text_point k at) point.Text))) ≡ Ok v
        → IsSet typed (text_point k at) kind x w v
    by_fault (Some cause) e = absurd (cc)
    by_fault None e =
        let one = after_tells (opened (text_point k at) w)
        (λ split. after (new_step kind x split) (put_by split.next_key (text_point k at) point.Text)) v e in
        let two = after_tells (new_step kind x one.0) (put_by one.0.next_key (text_point k at) point.Text) v one.1.1 in
        let o = opened_tells k at w one.0 sound place may one.1.0 in
        set_by_place one.0 two.0 o.0 place o.1 two.1.0 two.1.1

  pub set_element : lies w.forest (element_point k at) ≡ true → add_step (element_point k at) kind x w ≡ Ok v
      → IsSet typed (element_point k at) kind x w v
  unfolding add_step
  set_element place e = by_fault (no_room kind (kind_around w.forest k point.Element)) e where
    counted : (c : Option Kind) → kind_of w.forest k ≡ c → is_counted_in point.Element c ≡ true → has k w.forest ≡ true
    counted None is e = absurd (cc)
    counted (Some found) is e = sym (is_some-kind_of w.forest k) ∙ ap is_some is

    by_fault : (c : Option Cause) → after (answer c w) (λ u. after (opened (element_point k at) u)
        (λ split. after (new_step kind x split) (put_by split.next_key (element_point k at) point.Element))) ≡ Ok v
        → IsSet typed (element_point k at) kind x w v
    by_fault (Some cause) e = absurd (cc)
    by_fault None e =
        let two = after_tells (new_step kind x w) (put_by w.next_key (element_point k at) point.Element) v e in
        let inner = (both (is_attached w.forest k) (lies_in w.forest (element_point k at)) place).1 in
        let parts = both (is_counted_in point.Element (kind_of w.forest k)) (is_place w.forest (element_point k at) point.Element) inner in
        let within : at ≤ size_of w.forest k = grind (arith, nat_tests, parts.1) in
        let there : has k w.forest ≡ true = counted (kind_of w.forest k) refl parts.0 in
        let b = put_placed kind x k at w two.0 v sound.ready two.1.0 two.1.1 in
        let newest : w.next_key ≡ newest v = newest_is (element_point k at) kind x w two.0 v two.1.0 two.1.1 in
        let n : ℕ = w.next_key in
        let g : Forest = v.forest in
        let up : parent_of g n ≡ Some k = up_inside typed k at kind x w v sound text there within b in
        let i = child_index g n k b.ordered up in
        let further = inside_further typed k at kind x w v sound text there within b in
        let later = behind_further (text_length typed) (element_point k at) w.forest g n k i.0 b.ordered up i.1.1 b.bare
        (label_read g n b.ordered b.bare b.new) further in
        record {
          parent = k;
          fresh = ap (λ m. has m w.forest) (sym newest) ∙ sound.ready.free n (omega arith);
          label = subst (λ m. label_of g m ≡ Some (record { key = m; kind = kind; fields = x })) newest b.new;
          up = ap (parent_of g) (sym newest) ∙ up;
          index = i.0;
          at = ap (index_of g) (sym newest) ∙ i.1.0;
          in_it = λ c element over. subst (λ m. IsFurther (text_length typed) (element_point k at) (text_point m (text_length typed)) w.forest g c)
              newest
              (inside_around typed k at kind x w v sound text there within b (text_point n (text_length typed)) (inl refl) further c over);
          behind = λ c element over. inside_around typed k at kind x w v sound text there within b (element_point k (i.0 + 1)) (inr refl) later c over;
        }

-- at any point
set_at : (kind : Kind) (x : Fields) (p : Point) (w u : Working) → IsSound w → lies w.forest p ≡ true
    → (is_inside w.forest p p.kind ≡ true → is_some (normal_at w.forest p.key) ≡ true) → add_step p kind x w ≡ Ok u
    → IsSet (text_of (Some x)) p kind x w u
set_at kind x p w u sound place may e = by_kind p.kind place may e where
  by_kind : (c : PointKind) → lies w.forest (record { key = p.key; offset = p.offset; kind = c }) ≡ true
      → (is_inside w.forest (record { key = p.key; offset = p.offset; kind = c }) c ≡ true → is_some (normal_at w.forest p.key) ≡ true)
      → add_step (record { key = p.key; offset = p.offset; kind = c }) kind x w ≡ Ok u
      → IsSet (text_of (Some x)) (record { key = p.key; offset = p.offset; kind = c }) kind x w u
  by_kind point.Text place may e = set_there (text_of (Some x)) p.key p.offset kind x w u sound refl place may e
  by_kind point.Element place may e = set_element (text_of (Some x)) p.key p.offset kind x w u sound refl place e

-- ---- the caret is set there

right_after : (new : List ℕ) (p q : Point) (format : ℕ) (w u v : Working) → u.forest ≡ v.forest → v.selection ≡ Range q q format
    → ((c : ℕ) → is_at is_element w.forest c ≡ true → is_within w.forest c p.key ≡ true → IsFurther (text_length new) p q w.forest u.forest c)
    → IsRightAfter new p q format w v
right_after new p q format w u v same caret further = record {
  caret = caret;
  inside = λ c element over. ap (λ g. is_within g c q.key) (sym same) ∙ (further c element over).within;
  place = λ c element over. ap (λ g. place_in g c q) (sym same) ∙ (further c element over).place;
}

ranged : (p : Point) (format : ℕ) (w : Working) → w.selection ≡ Range p p format → InFormat format w.selection
ranged p format w is = record { anchor = p; focus = p; is = is }

forest_left : (q : Point) (u v : Working) → ◌≡◌ {A = Result Working Cause} (Ok (caret_at q u)) (Ok v) → u.forest ≡ v.forest
forest_left q u v e = ap (λ (y : Working). y.forest) (was_same (caret_at q u) v e)

-- ---- a tab, and a line break

tab_length : text_length (9 ∷ []) ≡ 1
unfolding text_length units units_of
tab_length = refl

tab_follows : (p : Point) (format : ℕ) (w v : Working) → IsCaretAt p format w → insert_tab_step w ≡ Ok v
    → (q : Point) × IsRightAfter (9 ∷ []) p q format w v
unfolding insert_tab_step tabbed
tab_follows p format w v is e =
    let at = at_point_of tabbed p format w v is.caret e in
    let first = after_tells (add_step p kinds.Tab (tab_fields format) w) (λ u. Ok (caret_at (text_point (newest u) 1) u)) v at.1 in
    let u : Working = first.0 in
    let q : Point = text_point (newest u) 1 in
    let set = set_at kinds.Tab (tab_fields format) p w u is.sound at.0 is.open_there first.1.0 in
    let caret = caret_set format q u v (add_kept format p kinds.Tab (tab_fields format) w u is.sound first.1.0 (ranged p format w is.caret)) first.1.1 in (
      q,
      right_after (9 ∷ []) p q format w u v (forest_left q u v first.1.1) caret (λ c element over.
          subst (λ m. IsFurther (text_length (9 ∷ [])) p (text_point (newest u) m) w.forest u.forest c) tab_length (set.in_it c element over)),
    )

break_follows : (p : Point) (format : ℕ) (w v : Working) → IsCaretAt p format w → insert_line_break_step w ≡ Ok v → IsAfterBreak p format w v
unfolding insert_line_break_step broken
break_follows p format w v is e =
    let at = at_point_of broken p format w v is.caret e in
    let first = after_tells (add_step p kinds.Break fields.Bare w) (λ u. Ok (caret_at (place_behind u.forest (newest u)) u)) v at.1 in
    let u : Working = first.0 in
    let set = set_at kinds.Break fields.Bare p w u is.sound at.0 is.open_there first.1.0 in
    let q : Point = element_point set.parent (set.index + 1) in
    let there : place_behind u.forest (newest u) ≡ q = ap₂ (λ a b. behind_at (newest u) a b) set.up set.at in
    let last : ◌≡◌ {A = Result Working Cause} (Ok (caret_at q u)) (Ok v) =
    ap (λ z. Ok (caret_at z u)) (sym there) ∙ first.1.1 in
    let caret = caret_set format q u v (add_kept format p kinds.Break fields.Bare w u is.sound first.1.0 (ranged p format w is.caret)) last in
    let same : u.forest ≡ v.forest = forest_left q u v last in
    record {
      node = newest u;
      parent = set.parent;
      index = set.index;
      fresh = set.fresh;
      kind = ap (λ g. kind_of g (newest u)) (sym same) ∙ ap (λ l. option_map (λ (y : Label). y.kind) l) set.label;
      up = ap (λ g. parent_of g (newest u)) (sym same) ∙ set.up;
      at = ap (λ g. index_of g (newest u)) (sym same) ∙ set.at;
      after = right_after [] p q format w u v same caret set.behind;
    }

-- ---- what is typed

-- an offset can say how long a text is that an update may write
few_new : (kind : Kind) (t : TextFields) (s m : Working) → new_step kind (fields.Text t) s ≡ Ok m → text_length t.text ≤ last_u32
unfolding new_step characters_of characters_of_text
few_new kind t s m e =
    let x : Fields = fields.Text t in
    let told = answered (over_limits (characters_of x) s) (steps.made kind x s) m e in
    let most : s.written + (length t.text + length t.style) ≤ most_written = written-allowed (characters_of x) s told.0 in
    u32-tells (text_length t.text) (length t.text) (omega (arith, length-few t.text)) (omega (arith, most))

few_added : (p : Point) (kind : Kind) (t : TextFields) (w v : Working) → add_step p kind (fields.Text t) w ≡ Ok v → text_length t.text ≤ last_u32
unfolding add_step
few_added p kind t w v e = by_fault (no_room kind (kind_around w.forest p.key p.kind)) e where
  by_fault : (c : Option Cause) → after (answer c w) (λ u. after (opened p u)
      (λ split. after (new_step kind (fields.Text t) split) (put_by split.next_key p p.kind))) ≡ Ok v → text_length t.text ≤ last_u32
  by_fault (Some cause) e = absurd (cc)
  by_fault None e =
      let one = after_tells (opened p w) (λ split. after (new_step kind (fields.Text t) split) (put_by split.next_key p p.kind)) v e in
      let two = after_tells (new_step kind (fields.Text t) one.0) (put_by one.0.next_key p p.kind) v one.1.1 in
      few_new kind t one.0 two.0 two.1.0

new_follows : (text : List ℕ) (p : Point) (format : ℕ) (w v : Working) → IsCaretAt p format w → lies w.forest p ≡ true
    → typed_new text format p w ≡ Ok v → TypesOn text p format w v
unfolding typed_new is_normal
new_follows text p format w v is place e =
    let t : TextFields = fields_typed text format (style_in (normal_at w.forest p.key)) in
    let x : Fields = fields.Text t in
    let first = after_tells (add_step p kinds.Text x w) (λ u. Ok (caret_at (text_point (newest u) (length_told text)) u)) v e in
    let u : Working = first.0 in
    let q : Point = text_point (newest u) (length_told text) in
    let set = set_at kinds.Text x p w u is.sound place is.open_there first.1.0 in
    let all : length_told text ≡ text_length text = told-all text (few_added p kinds.Text t w u first.1.0) in
    let caret = caret_set format q u v (add_kept format p kinds.Text x w u is.sound first.1.0 (ranged p format w is.caret)) first.1.1 in
    let same : u.forest ≡ v.forest = forest_left q u v first.1.1 in
    record {
      point = q;
      after = right_after text p q format w u v same caret (λ c element over.
          subst (λ m. IsFurther (text_length text) p (text_point (newest u) m) w.forest u.forest c) (sym all) (set.in_it c element over));
      text = t;
      normal = ap (λ g. normal_at g (newest u)) (sym same) ∙ ap (λ l. if_normal (text_in l)) set.label;
      alike = refl;
    }

pub if_normal_tells : (o : Option TextFields) (t : TextFields) → if_normal o ≡ Some t → is_normal t.mode ≡ true
if_normal_tells None t e = absurd (cc)
if_normal_tells (Some u) t e = by_test (is_normal u.mode) refl e where
  by_test : (b : Bool) → is_normal u.mode ≡ b → cond b (Some u) None ≡ Some t → is_normal t.mode ≡ true
  by_test false is e = absurd (cc)
  by_test true is e = let same : u ≡ t = cc in ap (λ (y : TextFields). is_normal y.mode) (sym same) ∙ is

into_follows : (text : List ℕ) (k at : ℕ) (t : TextFields) (w v : Working) → IsTyped text k at t w v → TypesOn text (text_point k at) t.format w v
into_follows text k at t w v is =
    let f : Forest = w.forest in
    let g : Forest = v.forest in
    let into = (is_read text k at t w v is).into in
    let here : text_in (label_of f k) ≡ Some t = text_of_normal f k t is.normal in
    let kind_is : kind_of f k ≡ Some kinds.Text = (text_at f k t here).kind_is in
    let there : has k f ≡ true = sym (is_some-kind_of f k) ∙ ap is_some kind_is in
    let leaf : children_of f k ≡ [] = childless_text f k is.sound.ready.in_order is.sound.held kind_is in
    let label = into.read.text t here in
    let there_g : has k g ≡ true = sym (is_some-kind_of g k) ∙ ap (λ l. is_some (option_map (λ (y : Label). y.kind) l)) label in
    let p : Point = text_point k at in
    let q : Point = text_point k (at + text_length text) in
    let now : TextFields = record t { text = front_of at t.text ++ text ++ rest_of at t.text } in
    let only = edited_at f g k _ is.sound.ready.in_order into.ordered there into.read in
    let further : IsFurther (text_length text) p q f g k = record {
      within = is_within-self g k ∙ there_g;
      place = place_leaf g k (at + text_length text) into.ordered there_g (into.read.children ∙ leaf)
          ∙ ap (λ m. m + text_length text) (sym (place_leaf f k at is.sound.ready.in_order there leaf));
    } in
    record {
      point = q;
      after = right_after text p q t.format w v v refl into.caret (λ c element over.
          further_above f g k k only p q (text_length text) refl (λ d so ne e. ne (sym e)) further c over);
      text = now;
      normal = ap (λ l. if_normal (text_in l)) label
          ∙ ap (λ b. cond b (Some now) None) (if_normal_tells (text_in (label_of f k)) t is.normal);
      alike = refl;
    }

typing_follows : (text : List ℕ) (k at : ℕ) (kind : PointKind) (format : ℕ) (w v : Working)
    → IsCaretAt (record { key = k; offset = at; kind = kind }) format w → text ≢ [] → insert_text_step text w ≡ Ok v
    → TypesOn text (record { key = k; offset = at; kind = kind }) format w v
unfolding insert_text_step typed
typing_follows text k at kind format w v is some done =
    let p : Point = record { key = k; offset = at; kind = kind } in
    let first = after_tells (remove_text_step w) (λ u. cond (has_no_text text) (Ok u) (at_anchor (typed text) u)) v done in
    let caret = at_caret p format w first.0 is.caret first.1.0 in
    let next : cond (has_no_text text) (Ok w) (at_anchor (typed text) w) ≡ Ok v =
    ap (λ u. cond (has_no_text text) (Ok u) (at_anchor (typed text) u)) caret.1 ∙ first.1.1 in
    let anchored : at_anchor (typed text) w ≡ Ok v =
    sym (ap (λ b. cond b (Ok w) (at_anchor (typed text) w)) (not_empty text some)) ∙ next in
    let went : typed text p format w ≡ Ok v = sym (ap (λ s. at_anchor_of s (typed text) w) is.caret) ∙ anchored in
    by_test (is_of_format format (normal_at w.forest k)) refl caret.0.anchor went where
      by_test : (b : Bool) → is_of_format format (normal_at w.forest k) ≡ b → lies w.forest (record { key = k; offset = at; kind = kind }) ≡ true
          → cond b (typed_into text (record { key = k; offset = at; kind = kind }) w)
          (typed_new text format (record { key = k; offset = at; kind = kind }) w) ≡ Ok v
          → TypesOn text (record { key = k; offset = at; kind = kind }) format w v
      by_test false other place e = new_follows text (record { key = k; offset = at; kind = kind }) format w v is place e
      by_test true own place e =
          let t = of_format_tells format (normal_at w.forest k) own in
          let here = text_of_normal w.forest k t.0 t.1.0 in
          let text_kind : kind ≡ point.Text = counts_text w k at kind place (text_at w.forest k t.0 here).kind_is in
          let selects : w.selection ≡ Range (text_point k at) (text_point k at) t.0.format =
          is.caret ∙ ap (λ c. let q : Point = record { key = k; offset = at; kind = c } in Range q q format) text_kind
          ∙ ap (Range (text_point k at) (text_point k at)) (sym t.1.1) in
          let into : IsTyped text k at t.0 w v = record { sound = is.sound; normal = t.1.0; caret = selects; done = done } in
          subst (λ c. TypesOn text (record { key = k; offset = at; kind = c }) format w v) (sym text_kind)
          (subst (λ m. TypesOn text (text_point k at) m w v) t.1.1 (into_follows text k at t.0 w v into))

pub told-following : CaretFollows
told-following = record {
  typing = λ text p format w v is some e. typing_follows text p.key p.offset p.kind format w v is some e;
  tab = λ p format w v is e. tab_follows p format w v is e;
  line_break = λ p format w v is e. break_follows p format w v is e;
}
