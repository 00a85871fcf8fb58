-- Demand 3, for the call and parents without text: the model accepts every sample word, and every other model without
-- text that does accepts some word that ours does not. And the model of a parent with text.
-- The statements to read; their proofs are cited from `chain_minimal` and `chain_mixed`, where the same is stated for
-- lists of words.
-- Assumes nothing.
use Rattle.std.specs.Prelude.{Ok}
use Prim.Native.Nat.{ℕ, ◌+◌, ◌≤◌}
use mathlib.Core.Path.{◌≡◌, sym, ◌∙◌, ap, ap₂, subst}
use mathlib.Core.Bool.{Bool, true, false}
use mathlib.Core.List.{List, [], Memᴰ}
use native.Mathlib.Omega.{arith}
use lib.ListN.{length}
use Rattle.refusal.specs.Answer.{Answer}
use Rattle.nameset.specs.Places.{places}
use Rattle.book.specs.Book.{Book, IsBook}
use Rattle.book.specs.Taken.{TakenAs}
use Rattle.book.proofs.Taken.{is_book}
use Rattle.model.specs.declared.Chain.{Chain}
use Rattle.model.specs.declared.Model.{Model}
use Rattle.model.specs.Record.{no_factor, model_with, IsChain, IsModel}
use Rattle.model.specs.Accept.{Accepts, Names}
use Rattle.model_language.specs.Word.{Fact, AcceptsAll}
use Rattle.follow.specs.Follow.{Follow}
use Rattle.follow.specs.Sample.{SameWords}
use Rattle.follow.proofs.Laws.{same_facts}
use Rattle.chain_minimal.specs.Placed.{Placed}
use Rattle.chain_minimal.proofs.Demand as Demand
use Rattle.chain_mixed.specs.Mixed.{IsTextModel, model_of}
use Rattle.chain_mixed.proofs.Theorem.{text_model}
use Rattle.chain_sample.specs.Sample.{chain_of_words, model_of_words}
use Rattle.intake_sample.specs.Inference.{sample_of, text_of, parent_model, model_answer, answer_model}
use Rattle.intake_sample.proofs.Samples as Sample

-- For every book that is taken and every parent with a block in it, whatever the call answered.
module _ (bytes : List ℕ) (parent : ℕ) (answer : Answer Model) (call : answer ≡ model_answer bytes parent)
    (book : Book) (taken : TakenAs bytes book) (block : ¬ (sample_of book parent ≡ [])) where
  -- the number of the book's names; the words of all blocks of the parent; the call's model
  abbrev n : ℕ
  n = length book.names

  abbrev sample : List (List ℕ)
  sample = sample_of book parent

  abbrev ours : Model
  ours = answer_model answer

  read : IsBook bytes book
  read = is_book bytes book taken

  few : n ≤ places
  few = Sample.few bytes book read

  names : (w : List ℕ) → Memᴰ w sample → Names n w
  names = Sample.sample_names bytes book read parent

  answer_is : answer ≡ Ok (parent_model book parent)
  answer_is = call ∙ Sample.answer_given bytes book taken parent block

  -- The call is not refused,
  pub not_refused : answer ≡ Ok ours
  not_refused = answer_is ∙ ap Ok (sym (ap answer_model answer_is))

  pub model_is : model_of_words places n sample (text_of book parent) ≡ ours
  unfolding parent_model
  model_is = sym (ap answer_model answer_is)

  -- and its model is one over the book's names.
  pub is_model_lem : IsModel places n ours
  unfolding parent_model
  is_model_lem = subst (IsModel places n) model_is (Sample.sample_model bytes book read parent block)

  small : places ≤ no_factor
  small = omega arith

  -- ---- a parent without text

  module _ (plain : text_of book parent ≡ false) where
    -- The model has no text, and its chain is that of the words,
    pub plain_is : model_with (chain_of_words places n sample) 0 ≡ ours
    unfolding model_of_words model_of chain_of_words
    plain_is = ap (λ (b : Bool). model_of_words places n sample b) (sym plain) ∙ model_is

    pub no_text : ours.text ≡ 0
    no_text = sym (ap (λ (m : Model). m.text) plain_is)

    chain_is : chain_of_words places n sample ≡ ours.chain
    chain_is = ap (λ (m : Model). m.chain) plain_is

    -- it accepts every sample word,
    pub accepts_sample : AcceptsAll ours.chain sample
    unfolding chain_of_words
    accepts_sample = subst (λ (m : Chain). AcceptsAll m sample) chain_is (Demand.accepts_words places n few small sample names block)

    better : (other : Chain) → IsChain places n other → AcceptsAll other sample → ¬ (other ≡ ours.chain) →
        (w : List ℕ) × Accepts other w × (¬ Accepts ours.chain w) × (length w ≤ other.count + 1) × Names n w
    unfolding chain_of_words
    better other c a =
        subst (λ (m : Chain). ¬ (other ≡ m) → (w : List ℕ) × Accepts other w × (¬ Accepts m w) × (length w ≤ other.count + 1) × Names n w) chain_is
        (Demand.other_accepts_more places n few small sample names block other c a)

    -- and every other model without text over the book's names that accepts every sample word accepts a word, handed
    -- over here, that ours does not accept.
    pub no_better : (other : Model) → IsModel places n other → other.text ≡ 0 → AcceptsAll other.chain sample → ¬ (other ≡ ours) →
        (w : List ℕ) × Accepts other.chain w × (¬ Accepts ours.chain w) × (length w ≤ other.chain.count + 1) × Names n w
    no_better other m t a d = better other.chain m.chain a (λ e. d (ap₂ model_with e (t ∙ sym no_text)))

    -- Its chain is the one that the levels give, over the steps that the sample's words show, and the only chain that
    -- is.
    pub is_placed : Placed (Fact sample) ours.chain
    unfolding chain_of_words
    is_placed = subst (Placed (Fact sample)) chain_is (Demand.is_placed places n few small sample names block)

    pub only_placed : (m : Chain) → IsChain places n m → Placed (Fact sample) m → m ≡ ours.chain
    unfolding chain_of_words
    only_placed m c p = Demand.only_placed places n few small sample names block m c p ∙ chain_is

  -- ---- a parent with text

  -- The model has at most one factor, which is starred and holds exactly the names that stand in the sample's words.
  pub is_text_model : text_of book parent ≡ true → IsTextModel places n sample ours
  unfolding model_of_words model_of
  is_text_model text =
      subst (IsTextModel places n sample) (ap (λ (b : Bool). model_of_words places n sample b) (sym text) ∙ model_is) (text_model places n few sample names)

-- "In whatever order and however often": the model depends only on which words there are, and on whether there is text.
pub same_sample : (n : ℕ) (us vs : List (List ℕ)) (b : Bool) → SameWords us vs → model_of_words places n us b ≡ model_of_words places n vs b
unfolding model_of_words
same_sample n us vs b same = ap (λ (f : Follow). model_of places f b) (same_facts n us vs same)
