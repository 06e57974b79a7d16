-- The laws of marks: what is marked after a mark, as one equation for all keys.
use Rattle.std.specs.Prelude.{ℕ, ◌≡◌, ◌==◌, ◌&&◌, ◌||◌, Bool, true, false, if◌then◌else◌, Option, None, Some, slice_get}
use Rattle.lx_trees.specs.Siblings.{is_among}
use Rattle.lx_marks.specs.Marks.{Marked, unmarked, flag_in, with_leaf, with_marked, absorbed, is_touched, is_noted, IsMarked}

-- of the flags that two tables give a key the one that is there, and of two whether either is true
abbrev pub either_flag : Option Bool → Option Bool → Option Bool
either_flag None flag = flag
either_flag (Some mine) None = Some mine
either_flag (Some mine) (Some other) = Some (mine || other)

-- what is marked after each mark, as equations for all keys
pub record MarksAreTold : Type 0 where
  -- which keys are marked themselves
  pub none_touched : (q : ℕ) → is_touched unmarked q ≡ false
  pub touched_leaf : (k : ℕ) (m : Marked) (q : ℕ) → is_touched (with_leaf k m) q ≡ (is_touched m q || q == k)
  pub touched_element : (k : ℕ) (flag : Bool) (m : Marked) (q : ℕ) →
      is_touched (with_marked k flag m) q ≡ (is_touched m q || (q == k && flag))
  pub touched_absorbed : (other m : Marked) (q : ℕ) → IsMarked other →
      is_touched (absorbed other m) q ≡ (is_touched m q || is_touched other q)
  -- which keys are marked at all
  pub none_noted : (q : ℕ) → is_noted unmarked q ≡ false
  pub noted_leaf : (k : ℕ) (m : Marked) (q : ℕ) → is_noted (with_leaf k m) q ≡ (is_noted m q || q == k)
  pub noted_element : (k : ℕ) (flag : Bool) (m : Marked) (q : ℕ) →
      is_noted (with_marked k flag m) q ≡ (is_noted m q || q == k)
  pub noted_absorbed : (other m : Marked) (q : ℕ) → IsMarked other →
      is_noted (absorbed other m) q ≡ (is_noted m q || is_noted other q)
  -- which keys are among the leaves
  pub leaves_leaf : (k : ℕ) (m : Marked) (q : ℕ) → is_among q (with_leaf k m).leaves ≡ (is_among q m.leaves || q == k)
  pub leaves_element : (k : ℕ) (flag : Bool) (m : Marked) → (with_marked k flag m).leaves ≡ m.leaves
  pub leaves_absorbed : (other m : Marked) (q : ℕ) →
      is_among q (absorbed other m).leaves ≡ (is_among q m.leaves || is_among q other.leaves)
  -- which keys are among the elements, and with which flag
  pub flags_leaf : (k : ℕ) (m : Marked) → (with_leaf k m).elements ≡ m.elements
  pub flags_element : (k : ℕ) (flag : Bool) (m : Marked) (q : ℕ) →
      flag_in (with_marked k flag m).elements q
      ≡ (if q == k then either_flag (flag_in m.elements q) (Some flag) else flag_in m.elements q)
  pub flags_absorbed : (other m : Marked) (q : ℕ) → IsMarked other →
      flag_in (absorbed other m).elements q ≡ either_flag (flag_in m.elements q) (flag_in other.elements q)
  -- what is read by place is there
  pub read_leaf : (m : Marked) (i k : ℕ) → slice_get m.leaves i ≡ Some k → is_among k m.leaves ≡ true
  pub read_element : (m : Marked) (i k : ℕ) (flag : Bool) → IsMarked m →
      slice_get m.elements i ≡ Some (k, flag) → flag_in m.elements k ≡ Some flag
  -- a flag that is true stays true
  pub flag_stays_element : (k : ℕ) (flag : Bool) (m : Marked) (q : ℕ) →
      flag_in m.elements q ≡ Some true → flag_in (with_marked k flag m).elements q ≡ Some true
  pub flag_stays_absorbed : (other m : Marked) (q : ℕ) →
      flag_in m.elements q ≡ Some true → flag_in (absorbed other m).elements q ≡ Some true
  -- no key comes to occur twice
  pub once_unmarked : IsMarked unmarked
  pub once_leaf : (k : ℕ) (m : Marked) → IsMarked m → IsMarked (with_leaf k m)
  pub once_element : (k : ℕ) (flag : Bool) (m : Marked) → IsMarked m → IsMarked (with_marked k flag m)
  pub once_absorbed : (other m : Marked) → IsMarked m → IsMarked (absorbed other m)
