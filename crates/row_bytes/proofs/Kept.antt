-- Rows under their kind and key.
use Rattle.std.proofs.Common.{◌≡◌, cond, Result, Ok, Err, refl, subst}
use Rattle.std.specs.Prelude.{◌==◌}
use Rattle.std.proofs.lemmas.Bool.{eqb-true}
use Rattle.keeper_core.specs.declared.row.Row.{Row}
use Rattle.repl_data.specs.declared.change.Change.{Change}
use Rattle.repl_data.specs.Text.{csn_bytes}
use Rattle.repl_data.specs.Order.{bytes_cmp, bytes_eq}
use Rattle.repl_data.proofs.Orders.{bytes_exact}
use Rattle.repl_data.proofs.InOrder.{is_equal}
use Rattle.repl_data.proofs.KeyPlaces.{same_self}
use Rattle.row_bytes.specs.declared.fault.RowFault.{RowFault}
use Rattle.row_bytes.specs.declared.fault.RowWhy.TheVariants as why
use Rattle.row_bytes.specs.Form.{row_of}
use Rattle.row_bytes.specs.Given.{Gives}
use Rattle.row_bytes.specs.Place.{Fault, At}
use Rattle.row_bytes.specs.Stored.{stored, belongs, change_of}
use Rattle.row_bytes.specs.Laws.{IsFoundAgain}
use Rattle.row_bytes.proofs.Found.{chosen}
use Rattle.row_bytes.proofs.BackRow.{row_back}

-- a row under the kind and key of a change, with the bytes of its row, is the one that it is kept as
pub own_row : (row : Row) (c : Change) → belongs row c ≡ Ok tt → row.bytes ≡ row_of c → row ≡ stored c
own_row row c e bytes =
    let a = chosen (row.key.kind == 1) (cond (bytes_eq row.key.key (csn_bytes c.csn)) (Ok tt) (Err (At 0 why.Key))) (At 0 why.Kind) tt e in
    let b = chosen (bytes_eq row.key.key (csn_bytes c.csn)) (Ok tt) (At 0 why.Key) tt a.1 in
    let kind = eqb-true row.key.kind 1 a.0 in
    let key = bytes_exact row.key.key (csn_bytes c.csn) (is_equal (bytes_cmp row.key.key (csn_bytes c.csn)) b.0) in
    (λ i. record { key = record { kind = kind i; key = key i }; bytes = bytes i })

pub kept_again : IsFoundAgain
unfolding change_of
kept_again c i =
    let read = row_back c i in
    let key = same_self (csn_bytes c.csn) in
    rw (read, key) refl

-- what holds of the reading of this row holds of what the reader gave
pub kept_by : (row : Row) (r : Result Change RowFault) (read : Result Change Fault) → Gives (λ c. c) r (change_of row) → change_of row ≡ read → Gives (λ c. c) r read
kept_by row r read g e = subst (λ (a : Result Change Fault). Gives (λ c. c) r a) e g
