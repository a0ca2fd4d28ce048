-- Keys among rising attributes.
pub use Rattle.repl_data.proofs.KeyPlaces.{is_less, put_rises, all_put, is_same}
pub use Rattle.rule_values.proofs.Places.{equal_key, above_others}
