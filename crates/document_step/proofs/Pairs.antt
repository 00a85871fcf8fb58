-- One pair as the code judges it, return by return.
-- Assumes nothing.
use Rattle.std.specs.Prelude.{Err}
use Prim.Native.Nat.{ℕ, zero, suc, ◌≤◌, ◌<◌}
use mathlib.Core.Path.{◌≡◌, refl, ap}
use mathlib.Core.Bool.{Bool, true, false, ◌&&◌}
use native.Mathlib.Omega.{arith}
use borrow.Author.Tests.{lt-ltb, le-ltb, le-leb, lt-leb, eq-eqb, ne_eqb}
use lib.ListN.{length}
use Rattle.refusal.specs.declared.Refusal.{Refusal}
use Rattle.refusal.specs.declared.Refusal.TheVariants.{BadDocument, TooDeep}
use Rattle.model.specs.declared.State.{State}
use Rattle.std.proofs.Common.{List, Option, Some, None, Result, Ok, Err}
use Rattle.document.specs.declared.Frame.{Frame}
use Rattle.model_table.specs.Table.{Entry}
use Rattle.model_table_step.specs.Run.{move_in, may_close, allows_text}
use Rattle.document.specs.Tree.{deepest}
use Rattle.document.specs.Walk.{Place, progress, kept, goes_on, opened, closed, texted, by_kind, one_pair}
use Rattle.document_step.specs.declared.Step.{Step}
use Rattle.document_step.specs.declared.Step.TheVariants.{Open, Close, Text}
use Rattle.document_step.specs.Step.{frames_around, outside, place_at, after, Judged}

pub around_length : (frames : List Frame) (d : ℕ) → length (frames_around frames d) ≡ d
unfolding frames_around
around_length frames zero = refl
around_length frames (suc d) = ap suc (around_length frames d)

module _ (e : ℕ → Entry) (x : ℕ) (begun : Bool) (top : Frame) (good : Bool) where
  -- ---- a close

  close_outside : (b : Bool) → closed e x (outside b) good ≡ Err BadDocument
  unfolding closed outside
  close_outside true = refl
  close_outside false = refl

  pub close_none : (depth : ℕ) → depth ≡ 0 → Judged (closed e x) x begun depth top good (Err BadDocument)
  unfolding place_at after
  close_none zero p = record { same = λ frames. close_outside begun; room = tt }
  close_none (suc d) p = absurd (omega arith)

  pub close_unlike : (depth : ℕ) → (depth ≡ 0 → ⊥) → (x ≡ top.name → ⊥) → Judged (closed e x) x begun depth top good (Err BadDocument)
  unfolding closed place_at after
  close_unlike zero n h = absurd (n refl)
  close_unlike (suc d) n h = record { same = λ frames. rw (ne_eqb x top.name h); room = tt }

  module _ (depth : ℕ) (n : depth ≡ 0 → ⊥) (h : x ≡ top.name) {m : Bool} (p : m ≡ may_close (e top.name) top.state) where
    close_one : (b : Bool) → b ≡ (m && good) → Judged (closed e x) x begun depth top good (Ok (Close b))
    unfolding closed place_at after
    close_one b q = go depth n
      where
        go : (d : ℕ) → (d ≡ 0 → ⊥) → Judged (closed e x) x begun d top good (Ok (Close b))
        go zero n = absurd (n refl)
        go (suc d) n = record { same = λ frames. rw (eq-eqb x top.name h, q, p); room = omega arith }

    pub close_good : m ≡ true → Judged (closed e x) x begun depth top good (Ok (Close good))
    close_good t = close_one good (rw t)

    pub close_bad : m ≡ false → Judged (closed e x) x begun depth top good (Ok (Close m))
    close_bad t = close_one m (rw t)

  -- ---- text

  text_outside : (b : Bool) → texted e x (outside b) good ≡ Err BadDocument
  unfolding texted outside
  text_outside true = refl
  text_outside false = refl

  pub text_none : (depth : ℕ) → depth ≡ 0 → Judged (texted e x) x begun depth top good (Err BadDocument)
  unfolding place_at after
  text_none zero p = record { same = λ frames. text_outside begun; room = tt }
  text_none (suc d) p = absurd (omega arith)

  pub text_number : (depth : ℕ) → (depth ≡ 0 → ⊥) → (x ≡ 0 → ⊥) → Judged (texted e x) x begun depth top good (Err BadDocument)
  unfolding texted place_at after
  text_number zero n h = absurd (n refl)
  text_number (suc d) n h = record { same = λ frames. rw (ne_eqb x 0 h); room = tt }

  module _ (depth : ℕ) (n : depth ≡ 0 → ⊥) (h : x ≡ 0) {m : Bool} (p : m ≡ allows_text (e top.name)) where
    text_one : (b : Bool) → b ≡ (m && good) → Judged (texted e x) x begun depth top good (Ok (Text b))
    unfolding texted place_at after
    text_one b q = go depth n
      where
        go : (d : ℕ) → (d ≡ 0 → ⊥) → Judged (texted e x) x begun d top good (Ok (Text b))
        go zero n = absurd (n refl)
        go (suc d) n = record { same = λ frames. rw (eq-eqb x 0 h, q, p); room = omega arith }

    pub text_good : m ≡ true → Judged (texted e x) x begun depth top good (Ok (Text good))
    text_good t = text_one good (rw t)

    pub text_bad : m ≡ false → Judged (texted e x) x begun depth top good (Ok (Text m))
    text_bad t = text_one m (rw t)

  -- ---- an open

  pub open_second : (depth : ℕ) → depth ≡ 0 → begun ≡ true → Judged (opened e x) x begun depth top good (Err BadDocument)
  unfolding opened place_at outside after
  open_second zero p q = record { same = λ frames. rw q; room = tt }
  open_second (suc d) p q = absurd (omega arith)

  pub open_root : (depth : ℕ) → depth ≡ 0 → begun ≡ false → Judged (opened e x) x begun depth top good (Ok (Open top good))
  unfolding opened place_at outside after
  open_root zero p q = record { same = λ frames. rw q; room = omega arith }
  open_root (suc d) p q = absurd (omega arith)

  pub open_deep : (depth : ℕ) → (depth ≡ 0 → ⊥) → deepest ≤ depth → Judged (opened e x) x begun depth top good (Err TooDeep)
  unfolding opened place_at after
  open_deep zero n l = absurd (n refl)
  open_deep (suc d) n l = record { same = λ frames. rw (around_length frames d, le-leb deepest (suc d) l); room = tt }

  module _ {m : Option State} (h : m ≡ move_in (e top.name) top.state x) where
    pub open_goes : (depth : ℕ) → (depth ≡ 0 → ⊥) → depth < deepest → (s : State) → m ≡ Some s →
        Judged (opened e x) x begun depth top good (Ok (Open (record { name = top.name; state = s }) good))
    unfolding opened place_at after kept goes_on
    open_goes zero n l s g = absurd (n refl)
    open_goes (suc d) n l s g = record { same = λ frames. rw (around_length frames d, lt-leb deepest (suc d) l, ← h, g); room = l }

    pub open_stays : (depth : ℕ) → (depth ≡ 0 → ⊥) → depth < deepest → m ≡ None → Judged (opened e x) x begun depth top good (Ok (Open top false))
    unfolding opened place_at after kept goes_on
    open_stays zero n l g = absurd (n refl)
    open_stays (suc d) n l g = record { same = λ frames. rw (around_length frames d, lt-leb deepest (suc d) l, ← h, g); room = l }

  -- ---- any pair

  module _ (n kind depth : ℕ) where
    pub number_high : n ≤ x → Judged (λ p g. one_pair n e (progress p g) kind x) x begun depth top good (Err BadDocument)
    unfolding one_pair after
    number_high l = record { same = λ frames. rw (le-ltb x n l); room = tt }

    module _ (l : x < n) {r : Result Step Refusal} where
      pub is_open : kind ≡ 0 → Judged (opened e x) x begun depth top good r → Judged (λ p g. one_pair n e (progress p g) kind x) x begun depth top good r
      unfolding one_pair by_kind
      is_open k j = record { same = λ frames. rw (lt-ltb x n l, k) (j.same frames); room = j.room }

      pub is_close : kind ≡ 1 → Judged (closed e x) x begun depth top good r → Judged (λ p g. one_pair n e (progress p g) kind x) x begun depth top good r
      unfolding one_pair by_kind
      is_close k j = record { same = λ frames. rw (lt-ltb x n l, k) (j.same frames); room = j.room }

      pub is_text : kind ≡ 2 → Judged (texted e x) x begun depth top good r → Judged (λ p g. one_pair n e (progress p g) kind x) x begun depth top good r
      unfolding one_pair by_kind
      is_text k j = record { same = λ frames. rw (lt-ltb x n l, k) (j.same frames); room = j.room }

    other_kind_lem : (k : ℕ) → (k ≡ 0 → ⊥) → (k ≡ 1 → ⊥) → (k ≡ 2 → ⊥) → (p : Place) → by_kind e x k p good ≡ Err BadDocument
    unfolding by_kind
    other_kind_lem zero a b c p = absurd (a refl)
    other_kind_lem (suc zero) a b c p = absurd (b refl)
    other_kind_lem (suc (suc zero)) a b c p = absurd (c refl)
    other_kind_lem (suc (suc (suc k))) a b c p = refl

    pub no_kind : x < n → (kind ≡ 0 → ⊥) → (kind ≡ 1 → ⊥) → (kind ≡ 2 → ⊥) → Judged (λ p g. one_pair n e (progress p g) kind x) x begun depth top good (Err BadDocument)
    unfolding one_pair after
    no_kind l a b c = record { same = λ frames. rw (lt-ltb x n l) (other_kind_lem kind a b c (place_at begun top frames depth)); room = tt }
