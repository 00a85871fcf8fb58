-- The reader takes a text exactly when it is a spelling, and answers what it spells.
-- Assumes nothing.
use Rattle.std.specs.Prelude.{Ok, Err}
use Prim.Native.Nat.{ℕ, ◌<◌}
use mathlib.Core.Path.{◌≡◌, sym, ◌∙◌, ap, subst}
use mathlib.Core.Bool.{true, not, false≢true}
use mathlib.Core.List.{List}
use mathlib.Core.Logic.{◌↔◌}
use lib.ListN.{length}
use borrow.Author.Tests.{not-false}
use Rattle.refusal.specs.declared.Refusal.TheVariants.{NotADeclaration, UnknownName, NameTwice}
use Rattle.refusal.specs.Answer.{Answer}
use Rattle.refusal.proofs.Answers.{check_given, given_same}
use Rattle.name.specs.Rule.{is_name}
use Rattle.model.specs.declared.Model.{Model}
use Rattle.model.specs.Record.{model_with, IsModel}
use Rattle.declaration_spelling.specs.House.{name_at, named, declaration}
use Rattle.declaration_spelling.specs.Spelled.{Spelled}
use Rattle.declaration_spelling.specs.Stops.{Form, HasForm}
use Rattle.declaration_spelling.specs.declared.Declared.{Declared}
use Rattle.declaration_spelling.specs.Read.{known, number_for, declared}
use Rattle.declaration_spelling.proofs.Record.{numbered, all_factors, all_form, none_twice, record_of}
use Rattle.declaration_spelling.proofs.Tests.{and_is}
use Rattle.declaration_spelling.proofs.Names.{GoodNames, number_is, name_number, name_known, factors_known, factors_back, test_factors}
use Rattle.declaration_spelling.proofs.Named.{all_law}
use Rattle.declaration_spelling.proofs.Shape.{model_shape, goes_text, full_numbered, small_numbered, goes_numbered}
use Rattle.declaration_spelling.proofs.Numbers.{order_below, order_once, model_back, from_order, from_chain}
use Rattle.declaration_spelling.proofs.House.{house_spelled}
use Rattle.declaration_walk.specs.Gather.{text_answer}
use Rattle.declaration_walk.proofs.Answer.{judged, formed_answer, answer_formed}

module _ (size : ℕ) (names : List (List ℕ)) (G : GoodNames size names) where
  -- what a form that passes both checks says
  form_spelled : (text : List ℕ) (d : Form) → HasForm text d → all_form (known names) d ≡ true → none_twice (length names) (numbered names d.factors) ≡ true
      → Spelled size names text (number_for names d.parent) (model_with (record_of size (numbered names d.factors)) d.mixed)
  unfolding all_form
  form_spelled text d F k o =
      let g = (and_is (known names d.parent) (all_factors (known names) d.factors)).0 k in
      let l = number_is names d.parent g.0 in
      let w = factors_known names d.factors g.1 in
      let fs = numbered names d.factors in
      let (full, small, goes) = model_shape d.mixed d.factors F.spelled.tokens F.spelled.model in
      let u = full_numbered names d.factors full in
      let s = small_numbered names d.factors small in
      let order = from_order size (length names) G.small G.few fs u w.1 s o in
      record {
        parent = l.0;
        model = record {
          chain = from_chain size (length names) G.small G.few fs u w.1 s o;
          text = goes_text (record_of size fs) d.mixed fs order (goes_numbered names d.mixed d.factors goes);
        };
        factors = fs;
        order = order;
        spelled = rw (l.1, w.0) F.spelled;
      }

  formed : (text : List ℕ) (d : Form) → HasForm text d → text_answer size names text ≡ judged size names d
  formed = formed_answer size names G.small G.place G.few

  -- the text is a spelling of what the reader answers
  read_sound : (text : List ℕ) (p : ℕ) (m : Model) → text_answer size names text ≡ Ok (declared p m) → Spelled size names text p m
  unfolding judged
  read_sound text p m e =
      let (d, F) = answer_formed size names text (λ q. let z : ◌≡◌ {A = Answer Declared} (Err NotADeclaration) (Ok (declared p m)) = sym q ∙ e in false≢true cc) in
      let a = check_given (not (all_form (known names) d)) UnknownName _ (declared p m) (sym (formed text d F) ∙ e) in
      let b = check_given (not (none_twice (length names) (numbered names d.factors))) NameTwice _ (declared p m) a.1 in
      subst (λ (x : Declared). Spelled size names text x.parent x.model) (given_same _ _ b.1) (form_spelled text d F (not-false _ a.0) (not-false _ b.0))

  -- a spelling of a model is read as that model
  read_complete : (text : List ℕ) (p : ℕ) (m : Model) → Spelled size names text p m → text_answer size names text ≡ Ok (declared p m)
  unfolding judged all_form
  read_complete text p m S =
      let n = length names in
      let c = S.model.chain in
      let fs = S.factors in
      let low = order_below size n G.small m.chain c 0 fs S.order in
      let d : Form = record { parent = name_at names p; mixed = m.text; factors = named names fs } in
      let good : all_form is_name d ≡ true
      = (and_is (is_name (name_at names p)) (all_factors is_name (named names fs))).1 (G.good p S.parent, test_factors names is_name G.good fs low) in
      let F : HasForm text d = record { good = (all_law is_name d).0 good; spelled = S.spelled } in
      let k : all_form (known names) d ≡ true
      = (and_is (known names (name_at names p)) (all_factors (known names) (named names fs))).1
      (name_known names G.distinct p S.parent, test_factors names (known names) (name_known names G.distinct) fs low) in
      formed text d F
      ∙ rw (
        k,
        factors_back names G.distinct fs low,
        order_once size n G.small m.chain c fs S.order,
        name_number names G.distinct p S.parent,
        model_back size n G.small m.chain c fs S.order,
      )

  -- a text is read exactly when it is a spelling of the declaration for what is then answered
  pub read_exactly : (text : List ℕ) (p : ℕ) (m : Model) → (text_answer size names text ≡ Ok (declared p m)) ↔ Spelled size names text p m
  read_exactly text p m = (read_sound text p m, read_complete text p m)

  -- what is written is read back
  pub read_written : (p : ℕ) (m : Model) → p < length names → IsModel size (length names) m → text_answer size names (declaration names p m) ≡ Ok (declared p m)
  read_written p m l c = read_complete (declaration names p m) p m (house_spelled size names p m G.small l c)

  -- a text is a spelling of at most one declaration
  pub spelled_once : (text : List ℕ) (p q : ℕ) (m k : Model) → Spelled size names text p m → Spelled size names text q k → (p ≡ q) × (m ≡ k)
  spelled_once text p q m k S T =
      let e = given_same _ _ (sym (read_complete text p m S) ∙ read_complete text q k T) in
      (ap (λ (x : Declared). x.parent) e, ap (λ (x : Declared). x.model) e)
