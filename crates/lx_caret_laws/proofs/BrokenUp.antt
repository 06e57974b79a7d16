-- A paragraph that is inserted: what is read in the block of the caret, and in the new one.
use Rattle.lx_blocks.specs.Ranges.{lies}
use Rattle.lx_caret.specs.Paragraphs.{place_of}
use Rattle.lx_caret_laws.proofs.BrokenParts.{among_drop, among_take, kept_take, read_ahead, read_more}
use Rattle.lx_caret_laws.proofs.EditedIn.{place_leaf}
use Rattle.lx_caret_laws.proofs.InPlace.{OnlyAt, apart_children, below_parent, place-level, read_elsewhere}
use Rattle.lx_caret_laws.proofs.Opened.{IsOpened, no_element_at}
use Rattle.lx_caret_laws.proofs.Placed.{IsBeside, label_new}
use Rattle.lx_caret_laws.proofs.ReadLevels.{read-leaf, read-level, reads-in_place, reads-same}
use Rattle.lx_caret_laws.proofs.TypedNew.{has_label, parts_read, said_label}
use Rattle.lx_caret_laws.specs.Breaking.{IsPartedAt}
use Rattle.lx_caret_laws.specs.Carets.{IsSound}
use Rattle.lx_caret_laws.specs.Reading.{place_along, place_in, read_in, reads_in, said, said_by}
use Rattle.lx_caret.proofs.Parents.{no_children}
use Rattle.lx_draft.proofs.Gaps.{parent_here}
use Rattle.lx_draft.specs.Working.{Working}
use Rattle.lx_edit.specs.Edits.{text_point}
use Rattle.lx_edit_laws.proofs.Reading.{spread}
use Rattle.lx_edit_laws.proofs.WrapTurns.{WentOver}
use Rattle.lx_edit_laws.specs.Reading.{in_place_of}
use Rattle.lx_forest.proofs.Lookups.{NoRepeats-children_of, has-child, has-parent_of, is_among-children_of, parent_of-self}
use Rattle.lx_forest.proofs.Within.{is_within-parent, is_within-self, is_within-trans}
use Rattle.lx_forest.specs.Forest.{Forest}
use Rattle.lx_forest.specs.Lookups.{IsForest, children_of, has, is_within, keys_within, label_of, parent_of}
use Rattle.lx_node.specs.declared.cause.Point.{Point}
use Rattle.lx_node.specs.declared.fields.Fields.{Fields}
use Rattle.lx_node.specs.declared.kind.Kind.{Kind}
use Rattle.lx_text.proofs.Places.{length-append}
use Rattle.lx_text.proofs.Told.{front_at, offset_at, rest_at}
use Rattle.lx_text.specs.Texts.{text_length}
use Rattle.lx_trees.specs.Siblings.{index_in, is_among}
use Rattle.std.proofs.Common.{List, Some, [], add-one, ap, append_assoc, ap₂, arith, cond, false, inl, inr, not, refl, subst, suc, sym, true, ℕ, ◌++◌, ◌+◌, ◌∙◌, ◌∷◌, ◌≡◌, ◌≢◌}
use Rattle.std.proofs.lemmas.Bool.Decides.{eqb_tells}
use Rattle.std.proofs.lemmas.Bool.{cases_Bool}
use Rattle.std.specs.List.{filter}
use Rattle.std.specs.Prelude.{drop, take}

-- ---- once the text is parted

module _ (block k at : ℕ) (rest : List ℕ) (w s : Working) (sound : IsSound w) (place : lies w.forest (text_point k at) ≡ true)
    (up : parent_of w.forest k ≡ Some block) (o : IsOpened k at rest w s) where
  abbrev f : Forest
  f = w.forest

  abbrev p : Point
  p = text_point k at

  h : IsForest f
  h = sound.ready.in_order

  leaf : children_of f k ≡ []
  leaf = no_children f k h sound.held (no_element_at f k at place)

  there : has k f ≡ true
  there = has-child f k block up

  block_there : has block f ≡ true
  block_there = has-parent_of f k block up

  own : is_within f k k ≡ true
  own = is_within-self f k ∙ there

  apart : k ≢ block
  apart e = absurd (grind (arith, e, up, parent_of-self f k h, eqb_tells k k))

  parted_only : OnlyAt f s.forest block k
  parted_only =
      let own_block : is_within f block block ≡ true = is_within-self f block ∙ block_there in
      let above : is_within f block k ≡ true = below_parent f k block h up in
      record {
        ordered = h;
        order_after = o.stay.ready.in_order;
        there = block_there;
        holds = above;
        says = λ q so out. said_label f s.forest q (o.stay.labels q so (λ same.
            absurd (elim out [ inl a ↦ grind (arith, a, same, own) | inr c ↦ grind (arith, c, same, above) ])));
        children = λ q so out. o.stay.children q so (λ e.
            let same : block ≡ q = let g : Some block ≡ Some q = sym up ∙ e in cc in
            absurd (elim out [ inl a ↦ grind (arith, a, same, above) | inr c ↦ grind (arith, c, same, own_block) ]));
      }

  each_child : (x : ℕ) → is_among x (children_of f block) ≡ true → x ≢ k → (read_in s.forest x ≡ read_in f x) × (is_within f x k ≡ false)
  each_child x among other =
      let up_x = parent_here f block x h among in
      let far = apart_children f x k block k h up_x up other own in
      (read_elsewhere f s.forest block k parted_only x (has-child f x block up_x) far, far)

  among_k : is_among k (children_of f block) ≡ true
  among_k = grind (arith, is_among-children_of f k block h, up, eqb_tells block block)

  order : children_of s.forest block ≡ in_place_of k (k ∷ rest) (children_of f block)
  order = o.stay.order block up

  all_pieces : (qs : List ℕ) → ((q : ℕ) → is_among q qs ≡ true → is_among q (k ∷ rest) ≡ true) → reads_in s.forest qs ≡ said_by s.forest qs
  all_pieces [] each = refl
  all_pieces (q ∷ qs) each =
      ap₂ (λ a c. a ++ c)
      (read-leaf s.forest q o.stay.ready.in_order (o.stay.bare leaf q (each q (grind (arith, eqb_tells q q)))))
      (all_pieces qs (λ y among. each y (grind (arith, among))))

  -- the same is read in the children taken together
  children_read : reads_in s.forest (children_of s.forest block) ≡ reads_in f (children_of f block)
  children_read =
      ap (reads_in s.forest) order
      ∙ reads-in_place f s.forest k (k ∷ rest) (children_of f block) (NoRepeats-children_of f block h)
      (all_pieces (k ∷ rest) (λ q among. among) ∙ o.whole ∙ sym (read-leaf f k h leaf)) (λ q among other. (each_child q among other).0)

  -- how much is read before the place
  ahead : (i : ℕ) → index_in (children_of s.forest block) k ≡ Some i
      → text_length (reads_in s.forest (take (place_of (Some i) at) (children_of s.forest block))) ≡ place_along f p
      (spread (keys_within f) (children_of f block))
  ahead i is =
      let xs : List ℕ = children_of f block in
      let ys : List ℕ = children_of s.forest block in
      let here = place_leaf f k at h there leaf in
      let first : text_length (reads_in s.forest (take i ys)) + at ≡ place_along f p (spread (keys_within f) xs) =
      subst (λ zs. text_length (reads_in s.forest (take i zs)) + at ≡ place_along f p (spread (keys_within f) xs)) (sym order)
      (read_ahead f s.forest p k at rest refl own here xs i (NoRepeats-children_of f block h) among_k each_child
      (ap (λ zs. index_in zs k) (sym order) ∙ is)) in
      elim (eqb_tells at 0) [
        | inl start ↦
            let spot : place_of (Some i) at ≡ i = ap (λ t. cond t i (i + 1)) start.0 in
            ap (λ j. text_length (reads_in s.forest (take j ys))) spot ∙ omega (arith, first, start.1)
        | inr later ↦
            let spot : place_of (Some i) at ≡ suc i = ap (λ t. cond t i (i + 1)) later.0 ∙ add-one i in
            let piece : read_in s.forest k ≡ said s.forest k =
            read-leaf s.forest k o.stay.ready.in_order (o.stay.bare leaf k (grind (arith, eqb_tells k k))) in
            let more : text_length (reads_in s.forest (take (suc i) ys)) ≡ text_length (reads_in s.forest (take i ys)) + at =
            ap text_length (read_more s.forest k i ys is) ∙ length-append (reads_in s.forest (take i ys)) (read_in s.forest k)
            ∙ ap (λ n. text_length (reads_in s.forest (take i ys)) + n) (ap text_length piece ∙ o.length later.1) in
            ap (λ j. text_length (reads_in s.forest (take j ys))) spot ∙ more ∙ first
      ]

  -- ---- once the new block has what comes after the place

  module _ (n : ℕ) (i : ℕ) (kind : Kind) (x : Fields) (put v : Working) (is : index_in (children_of s.forest block) k ≡ Some i)
      (n_is : n ≡ s.next_key)
      (b : IsBeside s.forest put.forest block n (block ∷ n ∷ []) (label_new s kind x))
      (over : WentOver put.forest v.forest block n (drop (place_of (Some i) at) (children_of s.forest block))) where
    abbrev pr : ℕ
    pr = b.parent

    abbrev j : ℕ
    j = place_of (Some i) at

    abbrev cs : List ℕ
    cs = children_of s.forest block

    sh : IsForest s.forest
    sh = o.stay.ready.in_order

    free : has n s.forest ≡ false
    free = ap (λ m. has m s.forest) n_is ∙ o.stay.ready.free s.next_key (omega arith)

    block_still : has block s.forest ≡ true
    block_still = has-child s.forest block pr b.up

    not_parent : block ≢ pr
    not_parent e = absurd (grind (arith, e, b.up, parent_of-self s.forest block sh, eqb_tells block block))

    not_new : (q : ℕ) → has q s.forest ≡ true → q ≢ n
    not_new q so e = absurd (grind (arith, so, e, free))

    pr_there : has pr s.forest ≡ true
    pr_there = has-parent_of s.forest block pr b.up

    label_same : (q : ℕ) → has q s.forest ≡ true → label_of v.forest q ≡ label_of s.forest q
    label_same q so = over.label q ∙ b.labels q so

    moved_only : OnlyAt s.forest v.forest pr block
    moved_only =
        let above : is_within s.forest pr block ≡ true = below_parent s.forest block pr sh b.up in
        let own_block : is_within s.forest block block ≡ true = is_within-self s.forest block ∙ block_still in
        let own_pr : is_within s.forest pr pr ≡ true = is_within-self s.forest pr ∙ pr_there in
        record {
          ordered = sh;
          order_after = over.in_order;
          there = pr_there;
          holds = above;
          says = λ q so out. said_label s.forest v.forest q (label_same q so);
          children = λ q so out.
              let off_block : q ≢ block = λ same.
              absurd (elim out [ inl a ↦ grind (arith, a, same, own_block) | inr c ↦ grind (arith, c, same, above) ]) in
              let off_pr : q ≢ pr = λ same.
              absurd (elim out [ inl a ↦ grind (arith, a, same, above) | inr c ↦ grind (arith, c, same, own_pr) ]) in
              over.others q off_block (not_new q so) ∙ b.children q off_pr;
        }

    -- each child is read as it was
    child_read : (q : ℕ) → is_among q cs ≡ true → read_in v.forest q ≡ read_in s.forest q
    child_read q among =
        let up_q = parent_here s.forest block q sh among in
        read_elsewhere s.forest v.forest pr block moved_only q (has-child s.forest q block up_q) (is_within-parent s.forest q block sh up_q)

    put_block : children_of put.forest block ≡ cs
    put_block = b.children block not_parent

    left : children_of v.forest block ≡ take j cs
    left =
        over.left ∙ ap (filter (λ q. not (is_among q (drop j cs)))) put_block ∙ kept_take j cs (NoRepeats-children_of s.forest block sh)

    pub went : children_of v.forest n ≡ drop j cs
    went = over.there ∙ ap (λ ys. ys ++ drop j cs) b.bare

    abbrev front : List ℕ
    front = said f block ++ reads_in s.forest (take j cs)

    abbrev back : List ℕ
    back = reads_in s.forest (drop j cs)

    old_is : read_in f block ≡ front ++ back
    old_is =
        read-level f block h ∙ ap (λ t. said f block ++ t) (sym children_read ∙ parts_read s.forest j cs)
        ∙ sym (append_assoc (said f block) (reads_in s.forest (take j cs)) back)

    length_is : text_length front ≡ place_in f block p
    length_is =
        length-append (said f block) (reads_in s.forest (take j cs)) ∙ ap (λ m. text_length (said f block) + m) (ahead i is)
        ∙ sym (place-level f p block h block_there apart)

    front_read : read_in v.forest block ≡ front
    front_read =
        read-level v.forest block over.in_order
        ∙ ap₂ (λ a t. a ++ t)
        (said_label s.forest v.forest block (label_same block block_still)
        ∙ said_label f s.forest block (o.stay.labels block block_there (λ e. apart (sym e))))
        (ap (reads_in v.forest) left ∙ reads-same s.forest v.forest (take j cs) (λ q among. child_read q (among_take j cs q among)))

    back_read : reads_in v.forest (children_of v.forest n) ≡ back
    back_read = ap (reads_in v.forest) went ∙ reads-same s.forest v.forest (drop j cs) (λ q among. child_read q (among_drop j cs q among))

    fresh : has n f ≡ false
    fresh = elim (cases_Bool (has n f)) [
      | inl so ↦ absurd (not_new n (elim (eqb_tells n k) [
        | inl same ↦ ap (λ m. has m s.forest) same.1 ∙ has-child s.forest k block (o.stay.parents k there ∙ up)
        | inr other ↦ has_label f s.forest n so (o.stay.labels n so other.1)
      ]) refl)
      | inr out ↦ out
    ]

    new_order : (q : ℕ) → parent_of f block ≡ Some q → children_of v.forest q ≡ in_place_of block (block ∷ n ∷ []) (children_of f q)
    new_order q above =
        let same : pr ≡ q = let g : Some pr ≡ Some q = sym b.up ∙ o.stay.parents block block_there ∙ above in cc in
        let pr_here : has pr f ≡ true = has-parent_of f block pr (above ∙ ap (λ m. Some m) (sym same)) in
        let still : children_of s.forest pr ≡ children_of f pr =
        o.stay.children pr pr_here (λ e. not_parent (let g : Some block ≡ Some pr = sym up ∙ e in cc)) in
        subst (λ m. children_of v.forest m ≡ in_place_of block (block ∷ n ∷ []) (children_of f m)) same
        (over.others pr (λ e. not_parent (sym e)) (not_new pr pr_there) ∙ b.order ∙ ap (in_place_of block (block ∷ n ∷ [])) still)

    -- what doesn't hold the caret stays
    not_above : (q : ℕ) → is_within f q k ≡ false → (q ≢ k) × ((q ≢ block) × (q ≢ pr))
    not_above q out =
        let above : is_within f block k ≡ true = below_parent f k block h up in
        let up_f : parent_of f block ≡ Some pr = sym (o.stay.parents block block_there) ∙ b.up in
        let over : is_within f pr k ≡ true = is_within-trans f pr block k h (below_parent f block pr h up_f) above in (
          λ e. absurd (grind (arith, e, out, own)),
          (λ e. absurd (grind (arith, e, out, above)), λ e. absurd (grind (arith, e, out, over))),
        )

    there_still : (q : ℕ) → has q f ≡ true → is_within f q k ≡ false → has q s.forest ≡ true
    there_still q so out = has_label f s.forest q so (o.stay.labels q so (not_above q out).0)

    label_aside : (q : ℕ) → has q f ≡ true → is_within f q k ≡ false → label_of v.forest q ≡ label_of f q
    label_aside q so out = label_same q (there_still q so out) ∙ o.stay.labels q so (not_above q out).0

    children_aside : (q : ℕ) → has q f ≡ true → is_within f q k ≡ false → children_of v.forest q ≡ children_of f q
    children_aside q so out =
        let off = not_above q out in
        over.others q off.1.0 (not_new q (there_still q so out)) ∙ b.children q off.1.1
        ∙ o.stay.children q so (λ e. off.1.0 (sym (let g : Some block ≡ Some q = sym up ∙ e in cc)))

    pub are_parted : IsPartedAt (place_in f block p) block n k w v
    are_parted = record {
      inside = offset_at (place_in f block p) front back (read_in f block) old_is length_is;
      before = front_read ∙ sym (front_at (place_in f block p) front back (read_in f block) old_is length_is);
      behind = back_read ∙ sym (rest_at (place_in f block p) front back (read_in f block) old_is length_is);
      fresh = fresh;
      order = new_order;
      aside = record { each = λ q so out again. (label_aside q so out, children_aside q so out) };
    }
