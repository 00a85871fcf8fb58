-- A means: texts on both sides of the border with their answers, as examples; `answered` in proofs/Texts.antt proves
-- them by computation.
-- Assumes nothing.
use Rattle.std.specs.Prelude.{ℕ, List, [], ◌∷◌, map, Ok, Err}
use Prim.Native.String.{String}
use Rattle.refusal.specs.declared.Refusal.TheVariants.{NotADeclaration, UnknownName, NameTwice}
use Rattle.refusal.specs.Answer.{Answer}
use Rattle.model.specs.Record.{model_with}
use Rattle.declaration_spelling.specs.Text.{bytes}
use Rattle.declaration_spelling.specs.declared.Declared.{Declared}
use Rattle.declaration_spelling.specs.Read.{declared}

-- A text, the names of the book in rising order, and the answer, with a record of five places.
pub record Line : Type 0 where
  pub names : List String
  pub text : String
  pub answer : Answer Declared

unfoldable pub line_names : Line → List (List ℕ)
line_names l = map bytes l.names

-- Among the names a, b, c and d.
abbrev pub abcd : String → Answer Declared → Line
abcd text answer = record { names = "a" ∷ "b" ∷ "c" ∷ "d" ∷ []; text = text; answer = answer }

-- Among the name EMPTY alone.
abbrev pub empty_named : String → Answer Declared → Line
empty_named text answer = record { names = "EMPTY" ∷ []; text = text; answer = answer }

-- Read: the parent, the number of factors, the factor of each name, the mode of each factor, and the text byte.
abbrev pub read : ℕ → ℕ → List ℕ → List ℕ → ℕ → Answer Declared
read parent count factor mode text = Ok (declared parent (model_with record { count = count; factor = factor; mode = mode } text))

unfoldable pub lines : List Line
lines =
    abcd "<!ELEMENT a (b)>" (read 0 1 (255 ∷ 0 ∷ 255 ∷ 255 ∷ 255 ∷ []) (0 ∷ 0 ∷ 0 ∷ 0 ∷ 0 ∷ []) 0)
    ∷ abcd "<!ELEMENT a (a)>" (read 0 1 (0 ∷ 255 ∷ 255 ∷ 255 ∷ 255 ∷ []) (0 ∷ 0 ∷ 0 ∷ 0 ∷ 0 ∷ []) 0)
    ∷ abcd "<!ELEMENT a (b? ,c )>" (read 0 2 (255 ∷ 0 ∷ 1 ∷ 255 ∷ 255 ∷ []) (1 ∷ 0 ∷ 0 ∷ 0 ∷ 0 ∷ []) 0)
    ∷ abcd "<!ELEMENT b ((a|c)+)>" (read 1 1 (0 ∷ 255 ∷ 0 ∷ 255 ∷ 255 ∷ []) (2 ∷ 0 ∷ 0 ∷ 0 ∷ 0 ∷ []) 0)
    ∷ abcd "<!ELEMENT  a  ( ( c |b )* , a? )  >" (read 0 2 (1 ∷ 0 ∷ 0 ∷ 255 ∷ 255 ∷ []) (3 ∷ 1 ∷ 0 ∷ 0 ∷ 0 ∷ []) 0)
    ∷ abcd "<!ELEMENT a (b,(d|c)+ , a?)>" (read 0 3 (2 ∷ 0 ∷ 1 ∷ 1 ∷ 255 ∷ []) (0 ∷ 2 ∷ 1 ∷ 0 ∷ 0 ∷ []) 0)
    ∷ abcd "<!ELEMENT b EMPTY>" (read 1 0 (255 ∷ 255 ∷ 255 ∷ 255 ∷ 255 ∷ []) (0 ∷ 0 ∷ 0 ∷ 0 ∷ 0 ∷ []) 0)
    ∷ abcd "<!ELEMENT b EMPTY  >" (read 1 0 (255 ∷ 255 ∷ 255 ∷ 255 ∷ 255 ∷ []) (0 ∷ 0 ∷ 0 ∷ 0 ∷ 0 ∷ []) 0)
    ∷ empty_named "<!ELEMENT EMPTY EMPTY>" (read 0 0 (255 ∷ 255 ∷ 255 ∷ 255 ∷ 255 ∷ []) (0 ∷ 0 ∷ 0 ∷ 0 ∷ 0 ∷ []) 0)
    ∷ empty_named "<!ELEMENT EMPTY (EMPTY)>" (read 0 1 (0 ∷ 255 ∷ 255 ∷ 255 ∷ 255 ∷ []) (0 ∷ 0 ∷ 0 ∷ 0 ∷ 0 ∷ []) 0)
    -- paper 02, U1: white space, one group as the whole model, one name in its own brackets
    ∷ abcd "<!ELEMENT\ta\r\n(b)>" (read 0 1 (255 ∷ 0 ∷ 255 ∷ 255 ∷ 255 ∷ []) (0 ∷ 0 ∷ 0 ∷ 0 ∷ 0 ∷ []) 0)
    ∷ abcd "<!ELEMENT b EMPTY\n>" (read 1 0 (255 ∷ 255 ∷ 255 ∷ 255 ∷ 255 ∷ []) (0 ∷ 0 ∷ 0 ∷ 0 ∷ 0 ∷ []) 0)
    ∷ abcd "<!ELEMENT c ( a\n|\tb )+>" (read 2 1 (0 ∷ 0 ∷ 255 ∷ 255 ∷ 255 ∷ []) (2 ∷ 0 ∷ 0 ∷ 0 ∷ 0 ∷ []) 0)
    ∷ abcd "<!ELEMENT c (a)?>" (read 2 1 (0 ∷ 255 ∷ 255 ∷ 255 ∷ 255 ∷ []) (1 ∷ 0 ∷ 0 ∷ 0 ∷ 0 ∷ []) 0)
    ∷ abcd "<!ELEMENT c (a )*>" (read 2 1 (0 ∷ 255 ∷ 255 ∷ 255 ∷ 255 ∷ []) (3 ∷ 0 ∷ 0 ∷ 0 ∷ 0 ∷ []) 0)
    ∷ abcd "<!ELEMENT c (b|a)>" (read 2 1 (0 ∷ 0 ∷ 255 ∷ 255 ∷ 255 ∷ []) (0 ∷ 0 ∷ 0 ∷ 0 ∷ 0 ∷ []) 0)
    ∷ abcd "<!ELEMENT c (a|b)*>" (read 2 1 (0 ∷ 0 ∷ 255 ∷ 255 ∷ 255 ∷ []) (3 ∷ 0 ∷ 0 ∷ 0 ∷ 0 ∷ []) 0)
    ∷ abcd "<!ELEMENT c ((a))>" (read 2 1 (0 ∷ 255 ∷ 255 ∷ 255 ∷ 255 ∷ []) (0 ∷ 0 ∷ 0 ∷ 0 ∷ 0 ∷ []) 0)
    ∷ abcd "<!ELEMENT c ( (a) )>" (read 2 1 (0 ∷ 255 ∷ 255 ∷ 255 ∷ 255 ∷ []) (0 ∷ 0 ∷ 0 ∷ 0 ∷ 0 ∷ []) 0)
    ∷ abcd "<!ELEMENT c ((a)*)>" (read 2 1 (0 ∷ 255 ∷ 255 ∷ 255 ∷ 255 ∷ []) (3 ∷ 0 ∷ 0 ∷ 0 ∷ 0 ∷ []) 0)
    ∷ abcd "<!ELEMENT c ((a)?,b)>" (read 2 2 (0 ∷ 1 ∷ 255 ∷ 255 ∷ 255 ∷ []) (1 ∷ 0 ∷ 0 ∷ 0 ∷ 0 ∷ []) 0)
    ∷ abcd "<!ELEMENT c (b,(a)+)>" (read 2 2 (1 ∷ 0 ∷ 255 ∷ 255 ∷ 255 ∷ []) (0 ∷ 2 ∷ 0 ∷ 0 ∷ 0 ∷ []) 0)
    ∷ empty_named "<!ELEMENT EMPTY (EMPTY)*>" (read 0 1 (0 ∷ 255 ∷ 255 ∷ 255 ∷ 255 ∷ []) (3 ∷ 0 ∷ 0 ∷ 0 ∷ 0 ∷ []) 0)
    -- paper 02, U5: text
    ∷ abcd "<!ELEMENT a (#PCDATA)>" (read 0 0 (255 ∷ 255 ∷ 255 ∷ 255 ∷ 255 ∷ []) (0 ∷ 0 ∷ 0 ∷ 0 ∷ 0 ∷ []) 1)
    ∷ abcd "<!ELEMENT a (#PCDATA)*>" (read 0 0 (255 ∷ 255 ∷ 255 ∷ 255 ∷ 255 ∷ []) (0 ∷ 0 ∷ 0 ∷ 0 ∷ 0 ∷ []) 1)
    ∷ abcd "<!ELEMENT a ( #PCDATA )>" (read 0 0 (255 ∷ 255 ∷ 255 ∷ 255 ∷ 255 ∷ []) (0 ∷ 0 ∷ 0 ∷ 0 ∷ 0 ∷ []) 1)
    ∷ abcd "<!ELEMENT a (\n#PCDATA\t)* >" (read 0 0 (255 ∷ 255 ∷ 255 ∷ 255 ∷ 255 ∷ []) (0 ∷ 0 ∷ 0 ∷ 0 ∷ 0 ∷ []) 1)
    ∷ abcd "<!ELEMENT c (#PCDATA|a)*>" (read 2 1 (0 ∷ 255 ∷ 255 ∷ 255 ∷ 255 ∷ []) (3 ∷ 0 ∷ 0 ∷ 0 ∷ 0 ∷ []) 1)
    ∷ abcd "<!ELEMENT c (#PCDATA|a|b)*>" (read 2 1 (0 ∷ 0 ∷ 255 ∷ 255 ∷ 255 ∷ []) (3 ∷ 0 ∷ 0 ∷ 0 ∷ 0 ∷ []) 1)
    ∷ abcd "<!ELEMENT c ( #PCDATA | b |a\n)*>" (read 2 1 (0 ∷ 0 ∷ 255 ∷ 255 ∷ 255 ∷ []) (3 ∷ 0 ∷ 0 ∷ 0 ∷ 0 ∷ []) 1)
    ∷ abcd "<!ELEMENT a (#PCDATA|a|d)*>" (read 0 1 (0 ∷ 255 ∷ 255 ∷ 0 ∷ 255 ∷ []) (3 ∷ 0 ∷ 0 ∷ 0 ∷ 0 ∷ []) 1)
    ∷ empty_named "<!ELEMENT EMPTY (#PCDATA|EMPTY)*>" (read 0 1 (0 ∷ 255 ∷ 255 ∷ 255 ∷ 255 ∷ []) (3 ∷ 0 ∷ 0 ∷ 0 ∷ 0 ∷ []) 1)
    -- 13
    ∷ abcd "<!ELEMENTa (b)>" (Err NotADeclaration)
    ∷ abcd "<!ELEMENT a(b)>" (Err NotADeclaration)
    ∷ abcd "<!ELEMENT a (b ?)>" (Err NotADeclaration)
    ∷ abcd "<!ELEMENT a (b)> " (Err NotADeclaration)
    ∷ abcd "<!ELEMENT a (b)>\n" (Err NotADeclaration)
    ∷ abcd "\n<!ELEMENT a (b)>" (Err NotADeclaration)
    ∷ abcd "<!ELEMENT a ()>" (Err NotADeclaration)
    ∷ abcd "<!ELEMENT a (b,)>" (Err NotADeclaration)
    ∷ abcd "<!ELEMENT a (b|c,d)>" (Err NotADeclaration)
    ∷ abcd "<!ELEMENT a ANY>" (Err NotADeclaration)
    ∷ abcd "<!ELEMENT a EMPTYx>" (Err NotADeclaration)
    ∷ abcd "<!ELEMENT a EMPTY*>" (Err NotADeclaration)
    ∷ abcd "<!ELEMENT a empty>" (Err NotADeclaration)
    ∷ abcd "<!ELEMENT a (1b)>" (Err NotADeclaration)
    ∷ abcd "<!ELEMENT a ((b|c) *)>" (Err NotADeclaration)
    ∷ abcd "<!ELEMENT a (xxxxxxxxxxxxxxxxxxxxxxxxxxxxxxxxx)>" (Err NotADeclaration)
    ∷ abcd " <!ELEMENT a (b)>" (Err NotADeclaration)
    ∷ abcd "<!element a (b)>" (Err NotADeclaration)
    -- 13, on the other side of U1's border
    ∷ abcd "<!ELEMENT c ((a|b))*>" (Err NotADeclaration)
    ∷ abcd "<!ELEMENT c ((a))?>" (Err NotADeclaration)
    ∷ abcd "<!ELEMENT c ((a))*>" (Err NotADeclaration)
    ∷ abcd "<!ELEMENT c (a) *>" (Err NotADeclaration)
    ∷ abcd "<!ELEMENT c (a)\n?>" (Err NotADeclaration)
    ∷ abcd "<!ELEMENT c (a|b) *>" (Err NotADeclaration)
    ∷ abcd "<!ELEMENT c ((a?),b)>" (Err NotADeclaration)
    ∷ abcd "<!ELEMENT c ((a)|b)>" (Err NotADeclaration)
    ∷ abcd "<!ELEMENT c (((a)))>" (Err NotADeclaration)
    ∷ abcd "<!ELEMENT c (a,b)+>" (Err NotADeclaration)
    ∷ abcd "<!ELEMENT c (a?)*>" (Err NotADeclaration)
    ∷ abcd "<!ELEMENT c (a)**>" (Err NotADeclaration)
    -- 13, on the other side of U5's border
    ∷ abcd "<!ELEMENT c (#PCDATA)+>" (Err NotADeclaration)
    ∷ abcd "<!ELEMENT c (#PCDATA)?>" (Err NotADeclaration)
    ∷ abcd "<!ELEMENT c (#PCDATA)**>" (Err NotADeclaration)
    ∷ abcd "<!ELEMENT c (#PCDATA|a)>" (Err NotADeclaration)
    ∷ abcd "<!ELEMENT c (#PCDATA|a|b)>" (Err NotADeclaration)
    ∷ abcd "<!ELEMENT c (a|#PCDATA)*>" (Err NotADeclaration)
    ∷ abcd "<!ELEMENT c (#PCDATA,a)*>" (Err NotADeclaration)
    ∷ abcd "<!ELEMENT c ((#PCDATA))>" (Err NotADeclaration)
    ∷ abcd "<!ELEMENT c ((#PCDATA|a)*)>" (Err NotADeclaration)
    ∷ abcd "<!ELEMENT c (#PCDATA|(a))*>" (Err NotADeclaration)
    ∷ abcd "<!ELEMENT c (#PCDATA) *>" (Err NotADeclaration)
    ∷ abcd "<!ELEMENT c (#PCDATA|a) *>" (Err NotADeclaration)
    ∷ abcd "<!ELEMENT c #PCDATA>" (Err NotADeclaration)
    ∷ abcd "<!ELEMENT c (#PCDATA|#PCDATA)*>" (Err NotADeclaration)
    ∷ abcd "<!ELEMENT c (#PCDATA|a)+>" (Err NotADeclaration)
    ∷ abcd "<!ELEMENT c (#PCDATA|a?)*>" (Err NotADeclaration)
    ∷ abcd "<!ELEMENT c (#PCDATA|)*>" (Err NotADeclaration)
    ∷ abcd "<!ELEMENT c (#PCDATA a)*>" (Err NotADeclaration)
    ∷ abcd "<!ELEMENT c (#PCDATAx)>" (Err NotADeclaration)
    ∷ abcd "<!ELEMENT c (x#PCDATA)>" (Err NotADeclaration)
    ∷ abcd "<!ELEMENT c (# PCDATA)>" (Err NotADeclaration)
    ∷ abcd "<!ELEMENT c (#pcdata)>" (Err NotADeclaration)
    ∷ abcd "<!ELEMENT c (#)>" (Err NotADeclaration)
    ∷ abcd "<!ELEMENT c (##PCDATA)>" (Err NotADeclaration)
    ∷ abcd "<!ELEMENT c (a#,b)>" (Err NotADeclaration)
    ∷ abcd "<!ELEMENT c (#PCDATA)>>" (Err NotADeclaration)
    ∷ abcd "<!ELEMENT #PCDATA (a)>" (Err NotADeclaration)
    -- 14 and 15
    ∷ abcd "<!ELEMENT a (z)>" (Err UnknownName)
    ∷ abcd "<!ELEMENT a (z,z)>" (Err UnknownName)
    ∷ abcd "<!ELEMENT a (b,b,z)>" (Err UnknownName)
    ∷ abcd "<!ELEMENT a (z)?>" (Err UnknownName)
    ∷ abcd "<!ELEMENT a (b|b|z)*>" (Err UnknownName)
    ∷ abcd "<!ELEMENT a ((z),b,b)>" (Err UnknownName)
    ∷ abcd "<!ELEMENT z (b,b)>" (Err UnknownName)
    ∷ abcd "<!ELEMENT a (xxxxxxxxxxxxxxxxxxxxxxxxxxxxxxxx)>" (Err UnknownName)
    ∷ abcd "<!ELEMENT a (b,b)>" (Err NameTwice)
    ∷ abcd "<!ELEMENT a ((b|b))>" (Err NameTwice)
    ∷ abcd "<!ELEMENT a (a|a)>" (Err NameTwice)
    ∷ abcd "<!ELEMENT a (b|c|b)+>" (Err NameTwice)
    ∷ abcd "<!ELEMENT a ((b),b)>" (Err NameTwice)
    ∷ abcd "<!ELEMENT a (b,(c|b)*)>" (Err NameTwice)
    ∷ abcd "<!ELEMENT a ((b|c|b)*)>" (Err NameTwice)
    ∷ abcd "<!ELEMENT a (b,c,b?)>" (Err NameTwice)
    ∷ abcd "<!ELEMENT a (a,b,c,d,a,b)>" (Err NameTwice)
    ∷ abcd "<!ELEMENT a (#PCDATA|z)*>" (Err UnknownName)
    ∷ abcd "<!ELEMENT a (#PCDATA|b|b|z)*>" (Err UnknownName)
    ∷ abcd "<!ELEMENT z (#PCDATA)>" (Err UnknownName)
    ∷ abcd "<!ELEMENT a (#PCDATA|b|b)*>" (Err NameTwice)
    ∷ abcd "<!ELEMENT a (#PCDATA|b|c|a|b)*>" (Err NameTwice)
    ∷ []
