use Rattle.input_maker.proofs.DayLaws.{made_cash, made_quantities, first_kind_is_done, second_kind_keeps_cash, none_is_full}
use Rattle.input_maker.proofs.laws.made_days.Goals as goal

pub returns-clause-cash : goal.returns-clause-cash
returns-clause-cash c = made_cash

pub returns-clause-quantities : goal.returns-clause-quantities
returns-clause-quantities c = made_quantities

pub returns-clause-first_kind : goal.returns-clause-first_kind
returns-clause-first_kind c = first_kind_is_done

pub returns-clause-second_kind : goal.returns-clause-second_kind
returns-clause-second_kind c = second_kind_keeps_cash

pub returns-clause-blocks : goal.returns-clause-blocks
returns-clause-blocks c = none_is_full
