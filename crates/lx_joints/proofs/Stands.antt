-- Where a table stands for trees, what an edit leaves stands for the trees after that edit.
use Rattle.std.proofs.Common.{ℕ, ◌≡◌, ◌<◌, ◌+◌, ◌-◌, ◌^◌, cond, eqb, true, false, ◌&&◌, Option, None, Some, option_map, is_some, is_none, Bor, inl, inr, refl, sym, ap, ◌∙◌, arith}
use Rattle.std.specs.Option.{option_copied}
use Rattle.std.proofs.lemmas.Bool.Decides.{eqb_tells}
use Rattle.lx_trees.specs.Trees.{Trees, nil, tree}
use Rattle.lx_trees.specs.NamedTrees.{has, total}
use Rattle.lx_trees.specs.Siblings.{is_named, is_place, place_behind}
use Rattle.lx_trees.specs.Lookups.{children_of}
use Rattle.lx_trees.specs.Edits.{with_new, take_out, put_in, CanPut}
use Rattle.lx_trees.specs.Records.{Record, record_at, lone}
use Rattle.lx_trees.specs.Records as recs
use Rattle.lx_trees.proofs.Bounds.{size_of-lt}
use Rattle.lx_trees.proofs.Edits.{total-with_new, total-take_out, total-put_in}
use Rattle.lx_trees.proofs.Order.{IsOrdered-with_new, IsOrdered-take_out, IsOrdered-put_in}
use Rattle.lx_trees.proofs.Records.{record_at-with_new, record_at-take_out, record_at-put_in, IsRecordOf-record_at, is_some-record_at}
use Rattle.lx_joints.specs.declared.links.Links.{Links}
use Rattle.lx_joints.specs.Changes.{Differs, on_links, unlinked, linked_in}
use Rattle.lx_joints.specs.Stands.{links_of, with_links, records, Stands, AreRecords}

pub is_some-map : {X Y : Type 0} (g : X → Y) (o : Option X) → is_some (option_map g o) ≡ is_some o
is_some-map g None = refl
is_some-map g (Some x) = refl

is_some-copied : {X : Type 0} (o : Option (Bor X)) → is_some (option_copied o) ≡ is_some o
is_some-copied None = refl
is_some-copied (Some x) = refl

-- the links of a record once k was taken from below p
record_unlinked : {A : Type 0} (k p q : ℕ) (n r : Record A) → n.parent ≡ Some p
    → with_links (unlinked k p n.prev n.next q (links_of r)) r ≡ recs.unlinked k n q r
record_unlinked {A} k p q n r e =
    let G : Option ℕ → Record A = λ up. record (recs.unlinked k n q r) {
      first = cond (is_named up q && is_none n.prev) n.next r.first;
      last = cond (is_named up q && is_none n.next) n.prev r.last;
      size = cond (is_named up q) (r.size - 1) r.size;
    } in
    ap G (sym e)

-- whether an entry that is borrowed is there
pub is_some_in : {A E : Type 0} (name : A → ℕ) (entry_of : Record A → E) (o : Option (Bor E)) (f : Trees A) (q : ℕ)
    → option_copied o ≡ option_map entry_of (record_at name f q) → is_some o ≡ has name q f
is_some_in name entry_of o f q e = sym (is_some-copied o) ∙ ap is_some e ∙ is_some-map entry_of (record_at name f q) ∙ is_some-record_at name f q

module _ {A E : Type 0} (name : A → ℕ) (record_of : ℕ → E → Record A) where
  mapped_over : (change : ℕ → E → E) (law : ℕ → Record A → Record A) (q : ℕ) (o : Option E)
      → ((e : E) → record_of q (change q e) ≡ law q (record_of q e))
      → option_map (record_of q) (option_map (change q) o) ≡ option_map (law q) (option_map (record_of q) o)
  mapped_over change law q None h = refl
  mapped_over change law q (Some e) h = ap Some (h e)

  -- what changes in each entry changes in its record
  pub records_after : (old new : ℕ → Option E) (f : Trees A) (change : ℕ → E → E) (law : ℕ → Record A → Record A) (q : ℕ)
      → records record_of old q ≡ record_at name f q → Differs change old new → ((e : E) → record_of q (change q e) ≡ law q (record_of q e))
      → records record_of new q ≡ option_map (law q) (record_at name f q)
  records_after old new f change law q s d h =
      ap (option_map (record_of q)) (d.each q) ∙ mapped_over change law q (old q) h ∙ ap (option_map (law q)) s

  -- the record of a name whose entry is seen
  pub record_by : (m : ℕ → Option E) (f : Trees A) (k : ℕ) (e : E) → Stands record_of name m f → m k ≡ Some e → record_at name f k ≡ Some (record_of k e)
  record_by m f k e s there = sym (s.same k) ∙ ap (option_map (record_of k)) there

  inserted_record : (k q : ℕ) (l : A) (e : E) (o : Option E) (r : Option (Record A)) → record_of k e ≡ lone l → option_map (record_of q) o ≡ r
      → option_map (record_of q) (cond (eqb q k) (Some e) o) ≡ cond (eqb q k) (Some (lone l)) r
  inserted_record k q l e o r alone rest = elim (eqb_tells q k) [
    | inl here ↦ ap (λ b. option_map (record_of q) (cond b (Some e) o)) here.0 ∙ ap (λ x. Some (record_of x e)) here.1 ∙ ap Some alone
        ∙ sym (ap (λ b. cond b (Some (lone l)) r) here.0)
    | inr other ↦ ap (λ b. option_map (record_of q) (cond b (Some e) o)) other.0 ∙ rest ∙ sym (ap (λ b. cond b (Some (lone l)) r) other.0)
  ]

  -- a new entry without links
  pub new_stands : (old new : ℕ → Option E) (f : Trees A) (l : A) (e : E) → Stands record_of name old f → has name (name l) f ≡ false
      → total f + 1 < 2 ^ 32 → record_of (name l) e ≡ lone l → ((q : ℕ) → new q ≡ cond (eqb q (name l)) (Some e) (old q))
      → Stands record_of name new (with_new name l f)
  new_stands old new f l e s free room alone put = record {
    in_order = IsOrdered-with_new name l f s.in_order free;
    same = λ q. ap (option_map (record_of q)) (put q) ∙ inserted_record (name l) q l e (old q) (record_at name f q) alone (s.same q)
        ∙ sym (record_at-with_new name l f q s.in_order free);
    small = omega (arith, total-with_new name l f, room);
  }

  -- a root alone
  pub root_stands : (new : ℕ → Option E) (l : A) (e : E) → name l ≡ 0 → record_of 0 e ≡ lone l → ((q : ℕ) → new q ≡ cond (eqb q 0) (Some e) None)
      → Stands record_of name new (tree l nil nil)
  root_stands new l e root alone put = record {
    in_order = record { once = λ q. grind (arith, eqb_tells (name l) q); rising = rw root refl };
    same = λ q. ap (option_map (record_of q)) (put q) ∙ elim (eqb_tells q 0) [
      | inl here ↦
          let own : eqb (name l) q ≡ true = grind (arith, here, root, eqb_tells (name l) q) in
          ap (λ b. option_map (record_of q) (cond b (Some e) None)) here.0 ∙ ap (λ x. Some (record_of x e)) here.1 ∙ ap Some alone ∙ rw own refl
      | inr other ↦
          let apart : eqb (name l) q ≡ false = grind (arith, other, root, eqb_tells (name l) q) in
          ap (λ b. option_map (record_of q) (cond b (Some e) None)) other.0 ∙ rw apart refl
    ];
    small = omega arith;
  }

  module _ (links : E → Links) (relinked : Links → E → E) (entry_of : Record A → E) (are : AreRecords links relinked record_of entry_of) where
    entry_again : (q : ℕ) (o : Option E) (r : Option (Record A)) → option_map (record_of q) o ≡ r → o ≡ option_map entry_of r
    entry_again q None r e = ap (option_map entry_of) e
    entry_again q (Some x) r e = ap Some (sym (are.back q x)) ∙ ap (option_map entry_of) e

    -- the entry of a name is that of its record
    pub get_stands : (m : ℕ → Option E) (f : Trees A) (q : ℕ) → records record_of m q ≡ record_at name f q → m q ≡ option_map entry_of (record_at name f q)
    get_stands m f q s = entry_again q (m q) (record_at name f q) s

    relinked_record : (f : Links → Links) (q : ℕ) (e : E) → record_of q (relinked (f (links e)) e) ≡ with_links (f (links_of (record_of q e))) (record_of q e)
    relinked_record f q e = are.relinked_is q (f (links e)) e ∙ ap (λ l. with_links (f l) (record_of q e)) (sym (are.linked q e))

    same_unlinked : (k p q : ℕ) (e d : E) → (links e).parent ≡ Some p
        → record_of q (on_links links relinked (unlinked k p (links e).prev (links e).next) q d) ≡ recs.unlinked k (record_of k e) q (record_of q d)
    same_unlinked k p q e d up =
        relinked_record (unlinked k p (links e).prev (links e).next q) q d
        ∙ ap (λ (l : Links). with_links (unlinked k p l.prev l.next q (links_of (record_of q d))) (record_of q d)) (sym (are.linked k e))
        ∙ record_unlinked k p q (record_of k e) (record_of q d) (ap (λ (l : Links). l.parent) (are.linked k e) ∙ up)

    -- an entry taken out from between its neighbours
    pub taken_stands : (old new : ℕ → Option E) (f : Trees A) (k p : ℕ) (e : E) → Stands record_of name old f → old k ≡ Some e → (links e).parent ≡ Some p
        → Differs (on_links links relinked (unlinked k p (links e).prev (links e).next)) old new → Stands record_of name new (take_out name k f)
    taken_stands old new f k p e s there up d = record {
      in_order = IsOrdered-take_out name k f s.in_order;
      same = λ q.
          records_after old new f (on_links links relinked (unlinked k p (links e).prev (links e).next)) (recs.unlinked k (record_of k e)) q (s.same q) d
          (λ x. same_unlinked k p q e x up)
          ∙ sym (record_at-take_out name k f (record_of k e) q s.in_order (record_by old f k e s there));
      small = omega (arith, total-take_out name k f, s.small);
    }

    -- one child more still has a number
    pub room_below : (m : ℕ → Option E) (f : Trees A) (p k : ℕ) (e : E) → Stands record_of name m f → CanPut name p k f → m p ≡ Some e
        → (links e).size + 1 < 2 ^ 32
    room_below m f p k e s c there =
        let size = (IsRecordOf-record_at name f p (record_of p e) (record_by m f p e s there)).size in
        omega (arith, size, ap (λ (l : Links). l.size) (are.linked p e), size_of-lt name p k f s.in_order c, s.small)

    -- an entry put in between its neighbours
    pub placed_stands : (old new : ℕ → Option E) (f : Trees A) (p k : ℕ) (before prev next : Option ℕ) → Stands record_of name old f → CanPut name p k f
        → is_place before (children_of name f p) ≡ true → prev ≡ place_behind before (children_of name f p) → next ≡ before
        → Differs (on_links links relinked (linked_in k p prev next)) old new → Stands record_of name new (put_in name p before k f)
    placed_stands old new f p k before prev next s c place behind is d = record {
      in_order = IsOrdered-put_in name p before k f s.in_order c;
      same = λ q. records_after old new f (on_links links relinked (linked_in k p prev next)) (recs.linked_in p prev next k) q (s.same q) d
          (λ x. relinked_record (linked_in k p prev next q) q x)
          ∙ ap (λ o. option_map (recs.linked_in p o next k q) (record_at name f q)) behind
          ∙ ap (λ o. option_map (recs.linked_in p (place_behind before (children_of name f p)) o k q) (record_at name f q)) is
          ∙ sym (record_at-put_in name p before k f q s.in_order c place);
      small = omega (arith, total-put_in name p before k f s.in_order c.parent c.outside, s.small);
    }
