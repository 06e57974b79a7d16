-- A line that was joined with one elsewhere: in each node that holds both, the same is read where nothing was read between them.
use Rattle.lx_caret_laws.proofs.BreakStarts.{at_element}
use Rattle.lx_caret_laws.proofs.EdgeEnd.{IsAround, around, or_last}
use Rattle.lx_caret_laws.proofs.InPlace.{apart_children, out_below, place-here, place-level}
use Rattle.lx_caret_laws.proofs.JoinedIn.{IsSetIn, past, read_aside, read_joined, says, take_all}
use Rattle.lx_caret_laws.proofs.ReadLevels.{read-level, reads-append, reads-same}
use Rattle.lx_caret_laws.proofs.Covers.{no_repeats_back, out_of_front}
use Rattle.lx_caret_laws.specs.Reading.{place_along, place_in, read_in, reads_in, said}
use Rattle.lx_draft.proofs.Gaps.{parent_here}
use Rattle.lx_edit.specs.Edits.{element_point}
use Rattle.lx_edit_laws.proofs.Reading.{down, spread}
use Rattle.lx_forest.proofs.Lookups.{NoRepeats-children_of, has-parent_of, is_among-children_of}
use Rattle.lx_forest.proofs.Tops.{is_within-child}
use Rattle.lx_forest.proofs.Within.{is_within-parent, is_within-self}
use Rattle.lx_forest.specs.Forest.{Forest}
use Rattle.lx_forest.specs.Lookups.{IsForest, children_of, is_within, keys_within, parent_of, size_of}
use Rattle.lx_node.specs.declared.cause.Point.{Point}
use Rattle.lx_text.proofs.Places as places
use Rattle.lx_text.proofs.Places.{length-none, length-some}
use Rattle.lx_text.specs.Texts.{text_length}
use Rattle.lx_trees.proofs.Siblings.{is_among-append}
use Rattle.lx_trees.specs.Siblings.{NoRepeats, is_among}
use Rattle.std.proofs.Common.{List, Some, [], ap, append-nil, append_assoc, ap₂, arith, false, inl, inr, refl, subst, sym, true, ℕ, ◌++◌, ◌+◌, ◌∙◌, ◌∷◌, ◌≡◌, ◌≢◌}
use Rattle.std.proofs.lemmas.Bool.Decides.{eqb_tells}

-- ---- lists

none_of_length : (xs : List ℕ) → text_length xs ≡ 0 → xs ≡ []
none_of_length [] e = refl
none_of_length (x ∷ xs) e = absurd (omega (arith, e, length-some x xs))

-- ---- one level

-- a node, split at a child: what is read before it and after it, and where a point in it is
pub record IsLevel (f : Forest) (b c : ℕ) : Type 0 where
  pub front : List ℕ
  pub back : List ℕ
  pub are : children_of f b ≡ front ++ (c ∷ back)
  pub read : read_in f b ≡ (said f b ++ reads_in f front) ++ (read_in f c ++ reads_in f back)
  pub place : (p : Point) → is_within f c p.key ≡ true → place_in f b p ≡ text_length (said f b ++ reads_in f front) + place_in f c p

level : (f : Forest) (b c : ℕ) → IsForest f → parent_of f c ≡ Some b → IsLevel f b c
level f b c h up =
    let among : is_among c (children_of f b) ≡ true = is_among-children_of f c b h ∙ grind (arith, up, eqb_tells b b) in
    let a = around c (children_of f b) among in
    let once : NoRepeats (a.front ++ (c ∷ a.back)) = subst NoRepeats a.is (NoRepeats-children_of f b h) in
    record {
      front = a.front;
      back = a.back;
      are = a.is;
      read = read-level f b h ∙ ap (λ ks. said f b ++ reads_in f ks) a.is
          ∙ ap (λ t. said f b ++ t) (reads-append f a.front (c ∷ a.back))
          ∙ sym (append_assoc (said f b) (reads_in f a.front) (read_in f c ++ reads_in f a.back));
      place = λ p inside.
          let off : p.key ≢ b = λ e. absurd (grind (arith, e, inside, is_within-parent f c b h up)) in
          let along = place-level f p b h (has-parent_of f c b up) off in
          let list : place_along f p (spread (keys_within f) (children_of f b)) ≡ place_along f p (spread (keys_within f) (a.front ++ (c ∷ a.back))) =
          ap (λ ks. place_along f p (spread (keys_within f) ks)) a.is in
          let passed = past f p a.front (c ∷ a.back) (λ d at.
          let up_d : parent_of f d ≡ Some b =
          parent_here f b d h (ap (is_among d) a.is ∙ is_among-append d a.front (c ∷ a.back) ∙ grind (arith, at)) in
          apart_children f d c b p.key h up_d up (λ e. absurd (grind (arith, e, at, out_of_front a.front c a.back once))) inside) in
          let stop = place-here f p c (spread (keys_within f) a.back) inside in
          omega (arith, along, list, passed, stop, places.length-append (said f b) (reads_in f a.front));
    }

module _ (f g : Forest) (first second : ℕ) (l : IsSetIn f g first second) (empty : children_of g second ≡ [])
    (others : (q : ℕ) → q ≢ first → q ≢ second → children_of g q ≡ children_of f q) where
  h : IsForest f
  h = l.ordered

  abbrev new : List ℕ
  new = read_in f second

  abbrev end : Point
  end = element_point first (size_of f first)

  abbrev start : Point
  start = element_point second 0

  own_first : is_within f first first ≡ true
  own_first = is_within-self f first ∙ l.there_first

  own_second : is_within f second second ≡ true
  own_second = is_within-self f second ∙ l.there_second

  -- children that hold neither
  reads_aside : (b : ℕ) (cs : List ℕ) → ((c : ℕ) → is_among c cs ≡ true → (is_within f c first ≡ false) × (is_within f c second ≡ false))
      → reads_in g cs ≡ reads_in f cs
  reads_aside b cs each = reads-same f g cs (λ c among. let out = each c among in read_aside f g first second l c out.0 out.1)

  read_by : (b : ℕ) (front back : List ℕ) (c : ℕ) → b ≢ first → b ≢ second → children_of f b ≡ front ++ (c ∷ back)
      → read_in g b ≡ (said f b ++ reads_in g front) ++ (read_in g c ++ reads_in g back)
  read_by b front back c one two are =
      read-level g b l.order_after
      ∙ ap₂ (λ s t. s ++ t) (says f g first second l b) (ap (reads_in g) (others b one two ∙ are) ∙ reads-append g front (c ∷ back))
      ∙ sym (append_assoc (said f b) (reads_in g front) (read_in g c ++ reads_in g back))

  -- a child other than the one that holds a node doesn't hold it
  sibling : (b c d m : ℕ) → parent_of f c ≡ Some b → parent_of f d ≡ Some b → d ≢ c → is_within f c m ≡ true → is_within f d m ≡ false
  sibling b c d m up_c up_d other inside = apart_children f d c b m h up_d up_c other inside

  in_front : (b c d : ℕ) (v : IsLevel f b c) → is_among d v.front ≡ true → (parent_of f d ≡ Some b) × (d ≢ c)
  in_front b c d v among =
      let once : NoRepeats (v.front ++ (c ∷ v.back)) = subst NoRepeats v.are (NoRepeats-children_of f b h) in (
        parent_here f b d h (ap (is_among d) v.are ∙ is_among-append d v.front (c ∷ v.back) ∙ grind (arith, among)),
        λ e. absurd (grind (arith, e, among, out_of_front v.front c v.back once)),
      )

  in_back : (b c d : ℕ) (v : IsLevel f b c) → is_among d v.back ≡ true → (parent_of f d ≡ Some b) × (d ≢ c)
  in_back b c d v among =
      let once : NoRepeats (c ∷ v.back) =
      no_repeats_back v.front (c ∷ v.back) (subst NoRepeats v.are (NoRepeats-children_of f b h)) in (
        parent_here f b d h (ap (is_among d) v.are ∙ is_among-append d v.front (c ∷ v.back)
            ∙ or_last (is_among d v.front) (is_among d (c ∷ v.back)) (grind (arith, among))),
        λ e. absurd (grind (arith, e, among, once.0)),
      )

  -- ---- a node that holds the first alone, and one that holds the second alone

  pub record IsGrown (b : ℕ) : Type 0 where
    pub ahead : List ℕ
    pub rest : List ℕ
    pub old : read_in f b ≡ ahead ++ rest
    pub now : read_in g b ≡ ahead ++ (new ++ rest)
    pub place : place_in f b end ≡ text_length ahead

  grown_up : (b c : ℕ) → parent_of f c ≡ Some b → is_within f c first ≡ true → is_within f b second ≡ false → IsGrown c → IsGrown b
  grown_up b c up inside out one =
      let v = level f b c h up in
      let not_first : b ≢ first = λ e. absurd (grind (arith, e, inside, is_within-parent f c b h up)) in
      let not_second : b ≢ second = λ e. absurd (grind (arith, e, out, own_second)) in
      let front : reads_in g v.front ≡ reads_in f v.front =
      reads_aside b v.front (λ d among. let k = in_front b c d v among in (sibling b c d first up k.0 k.1 inside, out_below f d b second h k.0 out)) in
      let back : reads_in g v.back ≡ reads_in f v.back =
      reads_aside b v.back (λ d among. let k = in_back b c d v among in (sibling b c d first up k.0 k.1 inside, out_below f d b second h k.0 out)) in
      let early : List ℕ = said f b ++ reads_in f v.front in
      record {
        ahead = early ++ one.ahead;
        rest = one.rest ++ reads_in f v.back;
        old = v.read ∙ ap (λ t. early ++ (t ++ reads_in f v.back)) one.old ∙ regroup early one.ahead one.rest (reads_in f v.back);
        now = read_by b v.front v.back c not_first not_second v.are
            ∙ ap₂ (λ s t. (said f b ++ s) ++ (read_in g c ++ t)) front back
            ∙ ap (λ t. early ++ (t ++ reads_in f v.back)) one.now
            ∙ regroup early one.ahead (new ++ one.rest) (reads_in f v.back)
            ∙ ap (λ t. (early ++ one.ahead) ++ t) (append_assoc new one.rest (reads_in f v.back));
        place = v.place end inside ∙ omega (arith, one.place, places.length-append early one.ahead);
      } where
        regroup : (a b c d : List ℕ) → a ++ ((b ++ c) ++ d) ≡ (a ++ b) ++ (c ++ d)
        regroup a b c d = ap (λ t. a ++ t) (append_assoc b c d) ∙ sym (append_assoc a b (c ++ d))

  grown : (b : ℕ) → is_within f b first ≡ true → is_within f b second ≡ false → IsGrown b
  grown b = down f h (λ b. is_within f b first ≡ true → is_within f b second ≡ false → IsGrown b)
      (λ b each inside out. elim (eqb_tells first b) [
        | inl own ↦ subst IsGrown own.1 (record {
          ahead = read_in f first;
          rest = [];
          old = sym (append-nil (read_in f first));
          now = read_joined f g first second l ∙ ap (λ t. read_in f first ++ t) (sym (append-nil new));
          place = at_element f first (size_of f first) h l.there_first
              ∙ ap (λ ks. text_length (said f first ++ reads_in f ks)) (take_all (children_of f first))
              ∙ ap text_length (sym (read-level f first h));
        })
        | inr other ↦
            let c = is_within-child f b first h inside other.1 in
            grown_up b c.child c.up c.inside out (each c.child c.up c.inside (out_below f c.child b second h c.up out))
      ]) b

  pub record IsShrunk (b : ℕ) : Type 0 where
    pub ahead : List ℕ
    pub rest : List ℕ
    pub old : read_in f b ≡ ahead ++ (new ++ rest)
    pub now : read_in g b ≡ ahead ++ rest
    pub place : place_in f b start ≡ text_length ahead

  shrunk_up : (b c : ℕ) → parent_of f c ≡ Some b → is_within f c second ≡ true → is_within f b first ≡ false → IsShrunk c → IsShrunk b
  shrunk_up b c up inside out one =
      let v = level f b c h up in
      let not_second : b ≢ second = λ e. absurd (grind (arith, e, inside, is_within-parent f c b h up)) in
      let not_first : b ≢ first = λ e. absurd (grind (arith, e, out, own_first)) in
      let front : reads_in g v.front ≡ reads_in f v.front =
      reads_aside b v.front (λ d among. let k = in_front b c d v among in (out_below f d b first h k.0 out, sibling b c d second up k.0 k.1 inside)) in
      let back : reads_in g v.back ≡ reads_in f v.back =
      reads_aside b v.back (λ d among. let k = in_back b c d v among in (out_below f d b first h k.0 out, sibling b c d second up k.0 k.1 inside)) in
      let early : List ℕ = said f b ++ reads_in f v.front in
      record {
        ahead = early ++ one.ahead;
        rest = one.rest ++ reads_in f v.back;
        old = v.read ∙ ap (λ t. early ++ (t ++ reads_in f v.back)) one.old ∙ regroup early one.ahead (new ++ one.rest) (reads_in f v.back)
            ∙ ap (λ t. (early ++ one.ahead) ++ t) (append_assoc new one.rest (reads_in f v.back));
        now = read_by b v.front v.back c not_first not_second v.are
            ∙ ap₂ (λ s t. (said f b ++ s) ++ (read_in g c ++ t)) front back
            ∙ ap (λ t. early ++ (t ++ reads_in f v.back)) one.now
            ∙ regroup early one.ahead one.rest (reads_in f v.back);
        place = v.place start inside ∙ omega (arith, one.place, places.length-append early one.ahead);
      } where
        regroup : (a b c d : List ℕ) → a ++ ((b ++ c) ++ d) ≡ (a ++ b) ++ (c ++ d)
        regroup a b c d = ap (λ t. a ++ t) (append_assoc b c d) ∙ sym (append_assoc a b (c ++ d))

  shrunk : (b : ℕ) → is_within f b second ≡ true → is_within f b first ≡ false → IsShrunk b
  shrunk b = down f h (λ b. is_within f b second ≡ true → is_within f b first ≡ false → IsShrunk b)
      (λ b each inside out. elim (eqb_tells second b) [
        | inl own ↦ subst IsShrunk own.1 (record {
          ahead = [];
          rest = [];
          old = sym (append-nil new);
          now = read-level g second l.order_after
              ∙ ap₂ (λ s ks. s ++ reads_in g ks) (says f g first second l second ∙ l.silent) empty;
          place = at_element f second 0 h l.there_second ∙ ap (λ t. text_length (t ++ [])) l.silent;
        })
        | inr other ↦
            let c = is_within-child f b second h inside other.1 in
            shrunk_up b c.child c.up c.inside out (each c.child c.up c.inside (out_below f c.child b first h c.up out))
      ]) b

  -- ---- a node that holds both

  -- both are in one child
  one_child : (b c : ℕ) → parent_of f c ≡ Some b → is_within f c first ≡ true → is_within f c second ≡ true → place_in f b end ≡ place_in f b start
      → (place_in f c end ≡ place_in f c start → read_in g c ≡ read_in f c) → read_in g b ≡ read_in f b
  one_child b c up one two same known =
      let v = level f b c h up in
      let not_first : b ≢ first = λ e. absurd (grind (arith, e, one, is_within-parent f c b h up)) in
      let not_second : b ≢ second = λ e. absurd (grind (arith, e, two, is_within-parent f c b h up)) in
      let front : reads_in g v.front ≡ reads_in f v.front =
      reads_aside b v.front (λ d among. let k = in_front b c d v among in (sibling b c d first up k.0 k.1 one, sibling b c d second up k.0 k.1 two)) in
      let back : reads_in g v.back ≡ reads_in f v.back =
      reads_aside b v.back (λ d among. let k = in_back b c d v among in (sibling b c d first up k.0 k.1 one, sibling b c d second up k.0 k.1 two)) in
      let inner : read_in g c ≡ read_in f c = known (omega (arith, same, v.place end one, v.place start two)) in
      read_by b v.front v.back c not_first not_second v.are
      ∙ ap₂ (λ s t. (said f b ++ s) ++ (read_in g c ++ t)) front back
      ∙ ap (λ t. (said f b ++ reads_in f v.front) ++ (t ++ reads_in f v.back)) inner ∙ sym v.read

  -- the first is in a child, and the second in a later one
  later_child : (b c d : ℕ) → parent_of f c ≡ Some b → parent_of f d ≡ Some b → d ≢ c → (v : IsLevel f b c) → is_among d v.back ≡ true
      → is_within f c first ≡ true → is_within f d second ≡ true → place_in f b end ≡ place_in f b start → read_in g b ≡ read_in f b
  later_child b c d up_c up_d other v among one two same =
      let not_first : b ≢ first = λ e. absurd (grind (arith, e, one, is_within-parent f c b h up_c)) in
      let not_second : b ≢ second = λ e. absurd (grind (arith, e, two, is_within-parent f d b h up_d)) in
      let x = grown c one (sibling b d c second up_d up_c (λ e. other (sym e)) two) in
      let y = shrunk d two (sibling b c d first up_c up_d other one) in
      let a = around d v.back among in
      let mid : List ℕ = reads_in f a.front in
      let tail : List ℕ = reads_in f a.back in
      let early : List ℕ = said f b ++ reads_in f v.front in
      let moved : children_of f b ≡ (v.front ++ (c ∷ a.front)) ++ (d ∷ a.back) =
      v.are ∙ ap (λ ks. v.front ++ (c ∷ ks)) a.is ∙ sym (append_assoc v.front (c ∷ a.front) (d ∷ a.back)) in
      let once : NoRepeats ((v.front ++ (c ∷ a.front)) ++ (d ∷ a.back)) = subst NoRepeats moved (NoRepeats-children_of f b h) in
      let aside : (e : ℕ) → is_among e (children_of f b) ≡ true → e ≢ c → e ≢ d → (is_within f e first ≡ false) × (is_within f e second ≡ false) =
      λ e at ne nd.
      let up = parent_here f b e h at in
      (sibling b c e first up_c up ne one, sibling b d e second up_d up nd two) in
      let front_out : (e : ℕ) → is_among e v.front ≡ true → (is_within f e first ≡ false) × (is_within f e second ≡ false) =
      λ e at.
      let k = in_front b c e v at in
      let here : is_among e (children_of f b) ≡ true = is_among-children_of f e b h ∙ grind (arith, k.0, eqb_tells b b) in
      aside e here k.1 (λ same_d. absurd (grind (
        arith,
        same_d,
        at,
        out_of_front (v.front ++ (c ∷ a.front)) d a.back once,
        is_among-append d v.front (c ∷ a.front),
      ))) in
      let mid_out : (e : ℕ) → is_among e a.front ≡ true → (is_within f e first ≡ false) × (is_within f e second ≡ false) =
      λ e at.
      let in_it : is_among e v.back ≡ true = ap (is_among e) a.is ∙ is_among-append e a.front (d ∷ a.back) ∙ grind (arith, at) in
      let k = in_back b c e v in_it in
      let here : is_among e (children_of f b) ≡ true = is_among-children_of f e b h ∙ grind (arith, k.0, eqb_tells b b) in
      aside e here k.1 (λ same_d. absurd (grind (
        arith,
        same_d,
        at,
        out_of_front (v.front ++ (c ∷ a.front)) d a.back once,
        or_last (is_among d v.front) (is_among d (c ∷ a.front)) (grind (arith, ap (λ z. is_among z a.front) (sym same_d) ∙ at)),
        is_among-append d v.front (c ∷ a.front),
      ))) in
      let tail_out : (e : ℕ) → is_among e a.back ≡ true → (is_within f e first ≡ false) × (is_within f e second ≡ false) =
      λ e at.
      let in_it : is_among e v.back ≡ true =
      ap (is_among e) a.is ∙ is_among-append e a.front (d ∷ a.back) ∙ or_last (is_among e a.front) (is_among e (d ∷ a.back)) (grind (arith, at)) in
      let k = in_back b c e v in_it in
      let here : is_among e (children_of f b) ≡ true = is_among-children_of f e b h ∙ grind (arith, k.0, eqb_tells b b) in
      let last : NoRepeats (d ∷ a.back) = no_repeats_back (v.front ++ (c ∷ a.front)) (d ∷ a.back) once in
      aside e here k.1 (λ same_d. absurd (grind (arith, same_d, at, last.0))) in
      let front_same = reads_aside b v.front front_out in
      let mid_same = reads_aside b a.front mid_out in
      let tail_same = reads_aside b a.back tail_out in
      let whole_f : reads_in f v.back ≡ mid ++ (read_in f d ++ tail) = ap (reads_in f) a.is ∙ reads-append f a.front (d ∷ a.back) in
      let whole_g : reads_in g v.back ≡ mid ++ (read_in g d ++ tail) =
      ap (reads_in g) a.is ∙ reads-append g a.front (d ∷ a.back) ∙ ap₂ (λ s t. s ++ (read_in g d ++ t)) mid_same tail_same in
      let place_d : place_in f b start ≡ text_length early + (text_length (read_in f c) + (text_length mid + place_in f d start)) =
      place_after b c d v a two up_c up_d other once in
      let place_c = v.place end one in
      let sum : text_length x.ahead ≡ (text_length x.ahead + text_length x.rest) + (text_length mid + text_length y.ahead) =
      omega (arith, same, place_d, place_c, x.place, y.place, ap text_length x.old, places.length-append x.ahead x.rest) in
      let no_rest : x.rest ≡ [] = none_of_length x.rest (omega (arith, sum)) in
      let no_mid : mid ≡ [] = none_of_length mid (omega (arith, sum)) in
      let no_ahead : y.ahead ≡ [] = none_of_length y.ahead (omega (arith, sum)) in
      let now_c : read_in g c ≡ x.ahead ++ new = x.now ∙ ap (λ t. x.ahead ++ (new ++ t)) no_rest ∙ ap (λ t. x.ahead ++ t) (append-nil new) in
      let old_c : read_in f c ≡ x.ahead = x.old ∙ ap (λ t. x.ahead ++ t) no_rest ∙ append-nil x.ahead in
      let now_d : read_in g d ≡ y.rest = y.now ∙ ap (λ t. t ++ y.rest) no_ahead in
      let old_d : read_in f d ≡ new ++ y.rest = y.old ∙ ap (λ t. t ++ (new ++ y.rest)) no_ahead in
      let both_g : read_in g c ++ reads_in g v.back ≡ x.ahead ++ (new ++ (y.rest ++ tail)) =
      ap₂ (λ s t. s ++ t) now_c (whole_g ∙ ap₂ (λ m t. m ++ (t ++ tail)) no_mid now_d) ∙ append_assoc x.ahead new (y.rest ++ tail) in
      let both_f : read_in f c ++ reads_in f v.back ≡ x.ahead ++ (new ++ (y.rest ++ tail)) =
      ap₂ (λ s t. s ++ t) old_c (whole_f ∙ ap₂ (λ m t. m ++ (t ++ tail)) no_mid old_d ∙ append_assoc new y.rest tail) in
      read_by b v.front v.back c not_first not_second v.are
      ∙ ap₂ (λ s t. (said f b ++ s) ++ t) front_same (both_g ∙ sym both_f) ∙ sym v.read where
        place_after : (b c d : ℕ) (v : IsLevel f b c) (a : IsAround d v.back) → is_within f d second ≡ true → parent_of f c ≡ Some b
            → parent_of f d ≡ Some b → d ≢ c → NoRepeats ((v.front ++ (c ∷ a.front)) ++ (d ∷ a.back))
            → place_in f b start ≡ text_length (said f b ++ reads_in f v.front)
            + (text_length (read_in f c) + (text_length (reads_in f a.front) + place_in f d start))
        place_after b c d v a two up_c up_d other once =
            let off : second ≢ b = λ e. absurd (grind (arith, e, two, is_within-parent f d b h up_d)) in
            let along = place-level f start b h (has-parent_of f d b up_d) off in
            let keys : List ℕ = v.front ++ (c ∷ a.front) in
            let are : children_of f b ≡ keys ++ (d ∷ a.back) =
            v.are ∙ ap (λ ks. v.front ++ (c ∷ ks)) a.is ∙ sym (append_assoc v.front (c ∷ a.front) (d ∷ a.back)) in
            let list : place_along f start (spread (keys_within f) (children_of f b)) ≡ place_along f start (spread (keys_within f) (keys ++ (d ∷ a.back))) =
            ap (λ ks. place_along f start (spread (keys_within f) ks)) are in
            let passed = past f start keys (d ∷ a.back) (λ e at.
            let up : parent_of f e ≡ Some b =
            parent_here f b e h (ap (is_among e) are ∙ is_among-append e keys (d ∷ a.back) ∙ grind (arith, at)) in
            sibling b d e second up_d up (λ same_d. absurd (grind (arith, same_d, at, out_of_front keys d a.back once))) two) in
            let stop = place-here f start d (spread (keys_within f) a.back) two in
            let read : text_length (reads_in f keys) ≡ text_length (reads_in f v.front) + (text_length (read_in f c) + text_length (reads_in f a.front)) =
            ap text_length (reads-append f v.front (c ∷ a.front)) ∙ places.length-append (reads_in f v.front) (reads_in f (c ∷ a.front))
            ∙ ap (λ n. text_length (reads_in f v.front) + n) (places.length-append (read_in f c) (reads_in f a.front)) in
            omega (arith, along, list, passed, stop, read, places.length-append (said f b) (reads_in f v.front))

  -- where the child of the second comes later
  pub read_both : ((b c d : ℕ) → parent_of f c ≡ Some b → parent_of f d ≡ Some b → d ≢ c → is_within f c first ≡ true → is_within f d second ≡ true
      → (v : IsLevel f b c) → is_among d v.back ≡ true)
      → (b : ℕ) → is_within f b first ≡ true → is_within f b second ≡ true → place_in f b end ≡ place_in f b start → read_in g b ≡ read_in f b
  read_both ordered b = down f h (λ b. is_within f b first ≡ true → is_within f b second ≡ true → place_in f b end ≡ place_in f b start
      → read_in g b ≡ read_in f b)
      (λ b each one two same.
      let not_first : first ≢ b = λ e. absurd (let bad : false ≡ true = sym l.first_off ∙ ap (λ x. is_within f x second) e ∙ two in cc) in
      let not_second : second ≢ b = λ e. absurd (let bad : false ≡ true = sym l.second_off ∙ ap (λ x. is_within f x first) e ∙ one in cc) in
      let c = is_within-child f b first h one not_first in
      let d = is_within-child f b second h two not_second in
      elim (eqb_tells d.child c.child) [
        | inl own ↦
            let in_one : is_within f c.child second ≡ true = ap (λ x. is_within f x second) (sym own.1) ∙ d.inside in
            one_child b c.child c.up c.inside in_one same (λ inner. each c.child c.up c.inside in_one inner)
        | inr other ↦
            let v = level f b c.child h c.up in
            later_child b c.child d.child c.up d.up other.1 v (ordered b c.child d.child c.up d.up other.1 c.inside d.inside v) c.inside d.inside same
      ]) b
