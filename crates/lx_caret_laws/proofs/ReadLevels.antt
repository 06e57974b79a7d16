-- What is read in a node, one level at a time, and what is read in two forests of which one came out of the other.
use Rattle.lx_caret_laws.specs.Reading.{read_in, reads_in, said, said_by}
use Rattle.lx_draft.proofs.Gaps.{parent_here}
use Rattle.lx_edit_laws.proofs.Reading.{below, below-level, down, spread, spread-same}
use Rattle.lx_edit_laws.specs.Reading.{in_place_of}
use Rattle.lx_forest.proofs.Edits.{is_some-spot}
use Rattle.lx_forest.specs.Forest.{Forest}
use Rattle.lx_forest.specs.Lookups.{IsForest, children_of, has, keys_within, parent_of, spot}
use Rattle.lx_trees.specs.Siblings.{NoRepeats, is_among}
use Rattle.std.proofs.Common.{Bool, List, None, Some, [], ap, append-nil, append_assoc, ap₂, arith, false, inl, inr, refl, sym, true, ℕ, ◌++◌, ◌∙◌, ◌∷◌, ◌≡◌, ◌≢◌}
use Rattle.std.proofs.lemmas.Bool.Decides.{eqb_tells}

-- ---- one level

pub said-spread : (f : Forest) (ks : List ℕ) → said_by f ks ≡ spread (said f) ks
said-spread f [] = refl
said-spread f (k ∷ ks) = ap (λ t. said f k ++ t) (said-spread f ks)

pub reads-spread : (f : Forest) (ks : List ℕ) → reads_in f ks ≡ spread (read_in f) ks
reads-spread f [] = refl
reads-spread f (k ∷ ks) = ap (λ t. read_in f k ++ t) (reads-spread f ks)

-- what isn't there says nothing
pub unsaid : (f : Forest) (k : ℕ) → has k f ≡ false → said f k ≡ []
unsaid f k free = let none : spot f k ≡ None = grind (arith, free, is_some-spot f k) in rw none refl

-- in a node its own characters are read, and then what is read in its children
pub read-level : (f : Forest) (k : ℕ) → IsForest f → read_in f k ≡ said f k ++ reads_in f (children_of f k)
read-level f k h =
    said-spread f (keys_within f k) ∙ below-level (said f) f k h (λ free. unsaid f k free)
    ∙ ap (λ t. said f k ++ t) (spread-same (below (said f) f) (read_in f) (children_of f k) (λ q among. sym (said-spread f (keys_within f q)))
    ∙ sym (reads-spread f (children_of f k)))

pub read-leaf : (f : Forest) (k : ℕ) → IsForest f → children_of f k ≡ [] → read_in f k ≡ said f k
read-leaf f k h none = read-level f k h ∙ ap (λ ks. said f k ++ reads_in f ks) none ∙ append-nil (said f k)

pub reads-append : (f : Forest) (xs ys : List ℕ) → reads_in f (xs ++ ys) ≡ reads_in f xs ++ reads_in f ys
reads-append f [] ys = refl
reads-append f (x ∷ xs) ys =
    ap (λ t. read_in f x ++ t) (reads-append f xs ys) ∙ sym (append_assoc (read_in f x) (reads_in f xs) (reads_in f ys))

-- ---- two forests

pub reads-same : (f g : Forest) (ks : List ℕ) → ((q : ℕ) → is_among q ks ≡ true → read_in g q ≡ read_in f q) → reads_in g ks ≡ reads_in f ks
reads-same f g [] each = refl
reads-same f g (k ∷ ks) each =
    ap₂ (λ a b. a ++ b) (each k (grind (arith, eqb_tells k k))) (reads-same f g ks (λ q among. each q (grind (arith, among))))

-- a node says the same, and the same is read in its children taken together
pub record ReadsOn (f g : Forest) (b : ℕ) : Type 0 where
  pub own : said g b ≡ said f b
  pub below : reads_in g (children_of g b) ≡ reads_in f (children_of f b)

-- the same is read in each node but for some, where it is in its children taken together, since it is in each of them
pub reads_by : (f g : Forest) (skip : ℕ → Bool) → IsForest f → IsForest g
    → ((b : ℕ) → skip b ≡ false → ((c : ℕ) → parent_of f c ≡ Some b → skip c ≡ false → read_in g c ≡ read_in f c) → ReadsOn f g b)
    → (b : ℕ) → skip b ≡ false → read_in g b ≡ read_in f b
reads_by f g skip h j level b = down f h (λ b. skip b ≡ false → read_in g b ≡ read_in f b) (λ b each clear.
    let on = level b clear each in
    read-level g b j ∙ ap₂ (λ x y. x ++ y) on.own on.below ∙ sym (read-level f b h)) b

-- the children of a node, none of which is skipped
pub reads_known : (f g : Forest) (skip : ℕ → Bool) (b : ℕ) → IsForest f
    → ((c : ℕ) → parent_of f c ≡ Some b → skip c ≡ false → read_in g c ≡ read_in f c) → ((c : ℕ) → parent_of f c ≡ Some b → skip c ≡ false)
    → reads_in g (children_of f b) ≡ reads_in f (children_of f b)
reads_known f g skip b h known none = reads-same f g (children_of f b) (λ c among. let up = parent_here f b c h among in known c up (none c up))

-- all nodes say the same and have the same children
pub reads_alike : (f g : Forest) → IsForest f → IsForest g → ((q : ℕ) → said g q ≡ said f q) → ((q : ℕ) → children_of g q ≡ children_of f q)
    → (b : ℕ) → read_in g b ≡ read_in f b
reads_alike f g h j says children b = reads_by f g (λ q. false) h j (λ b clear known. record {
  own = says b;
  below = ap (reads_in g) (children b) ∙ reads_known f g (λ q. false) b h known (λ c up. refl);
}) b refl

-- others are in the place of one of a list, and the same is read
pub reads-in_place : (f g : Forest) (k : ℕ) (new ks : List ℕ) → NoRepeats ks → reads_in g new ≡ read_in f k
    → ((q : ℕ) → is_among q ks ≡ true → q ≢ k → read_in g q ≡ read_in f q) → reads_in g (in_place_of k new ks) ≡ reads_in f ks
reads-in_place f g k new [] once same each = refl
reads-in_place f g k new (x ∷ xs) once same each =
    elim (eqb_tells x k) [
      | inl own ↦
          let rest : reads_in g xs ≡ reads_in f xs =
          reads-same f g xs (λ q among. each q (grind (arith, among)) (λ is. absurd (grind (arith, is, own, among, once)))) in
          rw own.0 (reads-append g new xs ∙ ap₂ (λ a b. a ++ b) (same ∙ ap (read_in f) (sym own.1)) rest)
      | inr other ↦
          let first : read_in g x ≡ read_in f x = each x (grind (arith, eqb_tells x x)) (λ is. absurd (grind (arith, other, is, eqb_tells x k))) in
          rw other.0 (ap₂ (λ a b. a ++ b) first (reads-in_place f g k new xs once.1 same (λ q among ne. each q (grind (arith, among)) ne)))
    ]
