-- What stands while a list is run, as the session that it means. Assumes nothing.
use Rattle.book.specs.Books.{shown}
use Rattle.book.specs.declared.books.Book.{Book}
use Rattle.plans.specs.Table.{table}
use Rattle.plans.specs.declared.equipment.Equipment.{Equipment}
use Rattle.strategies.specs.declared.strategy.Strategy.{Strategy}
use Rattle.reader.specs.Sessions.{Session}
use Rattle.reader.specs.declared.session.Session.{Session as Standing}

abbrev pub session : Book → Equipment → Strategy → Session
session b e t = record { model = shown b; equipment = table e; strategy = t }

abbrev pub standing : Standing → Session
standing s = session s.book s.equipment s.strategy
