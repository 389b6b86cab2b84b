-- A row's values, one behind another.
use Rattle.oer_rows.specs.declared.both.Both.{Both}

abbrev pub both : {A R : Type 0} → A → R → Both A R
both v rest = record { 0 = v; 1 = rest }
