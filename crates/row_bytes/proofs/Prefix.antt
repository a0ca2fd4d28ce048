-- No row has another at its front, and a row is that of one change.
use Rattle.std.proofs.Common.{◌≡◌, ℕ, ◌<◌, List, [], ◌∷◌, ◌++◌, length, refl, sym, ap, ◌∙◌, arith, length-append}
use Rattle.std.proofs.lemmas.List.{append-nil}
use Rattle.ber_core.specs.Element.{IsElement, shortest_length, element}
use Rattle.ber_core.proofs.Readers.{same_element}
use Rattle.ber_core.proofs.Written.{IsElement-element}
use Rattle.repl_data.specs.declared.change.Change.{Change}
use Rattle.repl_data.proofs.Loops.{empty_rest}
use Rattle.row_bytes.specs.Form.{integer, csn_string, body_bytes, row_of, IsChangeInRange}
use Rattle.row_bytes.specs.Grammar.{row_at}
use Rattle.row_bytes.specs.Laws.{NoneIsPrefix}
use Rattle.row_bytes.proofs.Found.{out}
use Rattle.row_bytes.proofs.Back.{is_tag}
use Rattle.row_bytes.proofs.BackRow.{row_back}

abbrev row_parts : Change → List ℕ
row_parts c = integer 1 ++ csn_string c.csn ++ csn_string c.target.csn ++ body_bytes c.body

parts_shorter : (tag : ℕ) (body : List ℕ) → length body < length (element tag body)
unfolding element
parts_shorter tag body = omega (arith, length-append (tag ∷ shortest_length (length body)) body)

row_element : (c : Change) → IsChangeInRange c → IsElement (row_of c) 0x30 (row_parts c)
unfolding row_of
row_element c i = let size = i.size in IsElement-element 0x30 (row_parts c) (is_tag 0x30 refl) (omega (arith, parts_shorter 0x30 (row_parts c)))

pub one_change : (a b : Change) → IsChangeInRange a → IsChangeInRange b → row_of a ≡ row_of b → a ≡ b
one_change a b i j e = out a b (sym (row_back a i) ∙ ap row_at e ∙ row_back b j)

pub none_is_prefix : NoneIsPrefix
none_is_prefix a b more i j e =
    let same = same_element (row_of a) (row_of b) more [] 0x30 0x30 (row_parts a) (row_parts b) (row_element a i) (row_element b j) (e ∙ sym (append-nil (row_of b))) in
    let rows : row_of a ≡ row_of b = same.0 in
    (empty_rest (row_of a) more (ap (λ (xs : List ℕ). length xs) rows ∙ ap (λ (xs : List ℕ). length xs) (sym e)), one_change a b i j rows)
