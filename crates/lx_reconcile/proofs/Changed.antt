-- What operations make of one host: its attributes, its text and its ending, one after another.
use Rattle.std.specs.Bool.{beq}
use Rattle.std.specs.List.{AllByRecursion}
use Rattle.std.proofs.Common.{◌≡◌, ◌≢◌, ◌∙◌, ℕ, Bool, true, false, List, [], ◌∷◌, ◌++◌, map, Option, Some, refl, sym, ap, subst, append_assoc, append-nil, arith}
use Rattle.lx_trees.specs.Trees.{Trees, nil, tree}
use Rattle.lx_node.specs.declared.kind.Kind.{Kind}
use Rattle.lx_node.specs.declared.fields.Fields.{Fields}
use Rattle.lx_node.specs.declared.fields.Fields.TheVariants as fields
use Rattle.lx_node.specs.declared.fields.TextFields.{TextFields}
use Rattle.lx_host.specs.declared.tag.Tag.{Tag}
use Rattle.lx_host.specs.declared.tag.Name.{Name}
use Rattle.lx_host.specs.declared.op.Op.{Op}
use Rattle.lx_host.specs.declared.op.Op.TheVariants.{Text, Attr, Break}
use Rattle.lx_host.specs.Words.{with_attribute}
use Rattle.lx_host.specs.Hosts.{Face, Host, with_ending}
use Rattle.lx_render.specs.Render.{attributes_of, text_attributes, text_of}
use Rattle.lx_reconcile.specs.Reconciled.{LeadsAt, IsAt}
use Rattle.lx_reconcile.specs.Changing.{write_op, all_written, AreAnew, Writes, IsWriteAt, is_text, is_attr, is_break, Changes, shown_face}
use Rattle.lx_reconcile.proofs.Due.{each_append}
use Rattle.lx_reconcile.proofs.Frames.{at_same, at_then, at_text, at_attr, at_break}

abbrev pub one : ℕ → Face → Trees Host → Trees Host
one host face kids = tree (record { id = host; face = face }) kids nil

at_one : (host : ℕ) (face : Face) (kids : Trees Host) → IsAt host (one host face kids)
at_one host face kids = record { host = record { id = host; face = face }; below = kids; is = refl; id = refl }

pub changes_none : (host : ℕ) (face : Face) (start : List Op) → Changes host face face start start
changes_none host face start = record {
  pushed = [];
  list = sym (append-nil start);
  only = tt;
  leads = λ kids n. at_same host (one host face kids) n (at_one host face kids);
}

pub changes_then : (host : ℕ) (a b c : Face) (start mid end : List Op) → Changes host a b start mid → Changes host b c mid end → Changes host a c start end
changes_then host a b c start mid end first then = record {
  pushed = first.pushed ++ then.pushed;
  list = then.list ∙ ap (λ l. l ++ then.pushed) first.list ∙ append_assoc start first.pushed then.pushed;
  only = each_append (IsWriteAt host) first.pushed then.pushed first.only then.only;
  leads = λ kids n. at_then host (one host a kids) n first.pushed (one host b kids) n then.pushed (one host c kids) n (first.leads kids n) (then.leads kids n)
      (at_one host b kids);
}

pub changes_ending : (host : ℕ) (face : Face) (ending : Bool) (start end : List Op) → face.ending ≢ ending → end ≡ start ++ Break host ending ∷ []
    → Changes host face (with_ending ending face) start end
changes_ending host face ending start end other is =
    record {
      pushed = Break host ending ∷ [];
      list = is;
      only = (is_break ending, tt);
      leads = λ kids n. at_break host (record { id = host; face = face }) kids n ending refl (λ e. other (sym (ap (λ (f : Face). f.ending) e)));
    }

pub unequal_ending : (face : Face) (old new : Bool) → face.ending ≡ old → beq old new ≡ false → face.ending ≢ new
unequal_ending face old new is differ e = grind (arith, is, differ, e)

both_same : (a b : Bool) → beq a b ≡ true → a ≡ b
both_same a b e = grind (arith, e)

pub equal_ending : (host : ℕ) (face : Face) (old new : Bool) (start : List Op) → face.ending ≡ old → beq old new ≡ true
    → Changes host face (with_ending new face) start start
equal_ending host face old new start e same =
    subst (λ b. Changes host face (with_ending b face) start start) (e ∙ both_same old new same) (changes_none host face start)

-- with these attributes
abbrev dressed : ℕ → Tag → Option (List ℕ) → Bool → List (Name × List ℕ) → Face
dressed key tag text ending attrs = record { key = key; tag = tag; attrs = attrs; text = text; ending = ending }

writes_lead : (host key : ℕ) (tag : Tag) (text : Option (List ℕ)) (ending : Bool) (writes : List (Name × Option (List ℕ))) (attrs : List (Name × List ℕ))
    (kids : Trees Host) (n : ℕ) → AreAnew writes attrs
    → LeadsAt host (one host (dressed key tag text ending attrs) kids) n (map (write_op host) writes)
    (one host (dressed key tag text ending (all_written writes attrs)) kids) n
writes_lead host key tag text ending [] attrs kids n anew =
    at_same host (one host (dressed key tag text ending attrs) kids) n (at_one host (dressed key tag text ending attrs) kids)
writes_lead host key tag text ending (write ∷ writes) attrs kids n anew =
    let from = dressed key tag text ending attrs in
    let mid = dressed key tag text ending (with_attribute write.0 write.1 attrs) in
    at_then host (one host from kids) n (Attr host write.0 write.1 ∷ []) (one host mid kids) n (map (write_op host) writes)
    (one host (dressed key tag text ending (all_written (write ∷ writes) attrs)) kids) n
    (at_attr host (record { id = host; face = from }) kids n write.0 write.1 refl (λ e. anew.0 (ap (λ (f : Face). f.attrs) e)))
    (writes_lead host key tag text ending writes (with_attribute write.0 write.1 attrs) kids n anew.1)
    (at_one host mid kids)

writes_only : (host : ℕ) (writes : List (Name × Option (List ℕ))) → AllByRecursion (IsWriteAt host) (map (write_op host) writes)
writes_only host [] = tt
writes_only host (write ∷ writes) = (is_attr write.0 write.1, writes_only host writes)

pub changes_attributes : (host key : ℕ) (tag : Tag) (text : Option (List ℕ)) (ending : Bool) (old new : List (Name × List ℕ)) (start end : List Op)
    → Writes host old new start end
    → Changes host (dressed key tag text ending old) (dressed key tag text ending new) start end
changes_attributes host key tag text ending old new start end w = record {
  pushed = map (write_op host) w.writes;
  list = w.list;
  only = writes_only host w.writes;
  leads = λ kids n. subst
      (λ attrs. LeadsAt host (one host (dressed key tag text ending old) kids) n (map (write_op host) w.writes)
      (one host (dressed key tag text ending attrs) kids) n) w.written (writes_lead host key tag text ending w.writes old kids n w.anew);
}

-- ---- by what the code knows

-- without a text before and after, or with equal ones
pub same_text : (host key : ℕ) (tag : Tag) (attrs : List (Name × List ℕ)) (old new : Option (List ℕ)) (ending : Bool) (start : List Op) → old ≡ new
    → Changes host (record { key = key; tag = tag; attrs = attrs; text = old; ending = ending })
    (record { key = key; tag = tag; attrs = attrs; text = new; ending = ending }) start start
same_text host key tag attrs old new ending start e =
    let face : Face = record { key = key; tag = tag; attrs = attrs; text = old; ending = ending } in
    subst (λ text. Changes host face (record { key = key; tag = tag; attrs = attrs; text = text; ending = ending }) start start) e
    (changes_none host face start)

-- a text is written
pub text_written : (host key : ℕ) (tag : Tag) (attrs : List (Name × List ℕ)) (old new : Option (List ℕ)) (text : List ℕ) (ending : Bool) (start end : List Op)
    → old ≢ new → new ≡ Some text → end ≡ start ++ Text host text ∷ []
    → Changes host (record { key = key; tag = tag; attrs = attrs; text = old; ending = ending })
    (record { key = key; tag = tag; attrs = attrs; text = new; ending = ending }) start end
text_written host key tag attrs old new text ending start end other e is =
    let face : Option (List ℕ) → Face = λ o. record { key = key; tag = tag; attrs = attrs; text = o; ending = ending } in
    subst (λ o. Changes host (face old) (face o) start end) (sym e) (record {
      pushed = Text host text ∷ [];
      list = is;
      only = (is_text text, tt);
      leads = λ kids n. at_text host (record { id = host; face = face old }) kids n text refl (λ x. other (sym (ap (λ (f : Face). f.text) x) ∙ sym e));
    })

-- neither the kind nor the fields differ
pub same_face : (host key : ℕ) (tag : Tag) (k l : Kind) (f g : Fields) (ending : Bool) (start : List Op) → (k ≡ l) × (f ≡ g)
    → Changes host (shown_face key tag k f ending) (shown_face key tag l g ending) start start
same_face host key tag k l f g ending start e =
    subst (λ t. t) (λ i. Changes host (shown_face key tag k f ending) (shown_face key tag (e.0 i) (e.1 i) ending) start start)
    (changes_none host (shown_face key tag k f ending) start)

-- the attributes are written, and then the text
pub face_written : (host : ℕ) (k l : Kind) (f g : Fields) (attrs news : List (Name × List ℕ)) (old new : Option (List ℕ)) (start mid end : List Op)
    → attrs ≡ attributes_of k f → news ≡ attributes_of l g → old ≡ text_of f → new ≡ text_of g
    → Writes host attrs news start mid
    → ((key : ℕ) (tag : Tag) (attrs : List (Name × List ℕ)) (ending : Bool)
    → Changes host (record { key = key; tag = tag; attrs = attrs; text = old; ending = ending })
    (record { key = key; tag = tag; attrs = attrs; text = new; ending = ending }) mid end)
    → (key : ℕ) (tag : Tag) (ending : Bool) → Changes host (shown_face key tag k f ending) (shown_face key tag l g ending) start end
face_written host k l f g attrs news old new start mid end a b c d writes text key tag ending =
    subst (λ t. t) (λ i. Changes host (dressed key tag (c i) ending (a i)) (dressed key tag (d i) ending (b i)) start end)
    (changes_then host (dressed key tag old ending attrs) (dressed key tag old ending news) (dressed key tag new ending news) start mid end
    (changes_attributes host key tag old ending attrs news start mid writes) (text key tag news ending))

-- of two texts that show the same attributes, only the text is written
pub face_alike : (host : ℕ) (k l : Kind) (f g : Fields) (t u : TextFields) (start end : List Op) → f ≡ fields.Text t → g ≡ fields.Text u
    → text_attributes t ≡ text_attributes u
    → ((key : ℕ) (tag : Tag) (attrs : List (Name × List ℕ)) (ending : Bool)
    → Changes host (record { key = key; tag = tag; attrs = attrs; text = Some t.text; ending = ending })
    (record { key = key; tag = tag; attrs = attrs; text = Some u.text; ending = ending }) start end)
    → (key : ℕ) (tag : Tag) (ending : Bool) → Changes host (shown_face key tag k f ending) (shown_face key tag l g ending) start end
face_alike host k l f g t u start end a b same text key tag ending =
    subst (λ t. t) (λ i. Changes host (shown_face key tag k (sym a i) ending) (shown_face key tag l (sym b i) ending) start end)
    (subst (λ xs. Changes host (dressed key tag (Some t.text) ending (text_attributes t)) (dressed key tag (Some u.text) ending xs) start end) same
    (text key tag (text_attributes t) ending))
