-- A desk may go to another thread: each of its parts may.
use denote.Param.Send.{IsSend, sendable}
use Rattle.std.proofs.Crossing.{crosses}
use Rattle.rx_books_store.specs.contracts.amended.AmendedBooks.{the_row as amended_books_row}
use Rattle.rx_books_store.specs.contracts.books.Books.{the_row as books_row}
use Rattle.rx_books_store.specs.contracts.books.Form.{the_row as form_row}
use Rattle.rx_books_store.specs.contracts.open_books.OpenBooks.{the_row as open_books_row}
use Rattle.rx_books_shelf.specs.contracts.shelf.Shelf.{the_row as shelf_row}
use Rattle.rx_d0_values.specs.contracts.codes.Codes.{the_row as codes_row}
use Rattle.rx_d0_values.specs.contracts.echo.Echo.{the_row as echo_row}
use Rattle.rx_d0_values.specs.contracts.reply.Answers.{the_row as answers_row}
use Rattle.rx_d0_values.specs.contracts.reply.Reply.{the_row as reply_row}
use Rattle.rx_d0_values.specs.contracts.transaction.Transactions.{the_row as transactions_row}
use Rattle.rx_d0_values.specs.contracts.transmission.Transmission.{the_row as transmission_row}
use Rattle.rx_desk.specs.contracts.desk.Desk.{the_row as desk_row}
use Rattle.rx_desk.specs.contracts.state.State.{the_row as state_row}
use Rattle.rx_books_family.specs.contracts.family.Family.{the_row as family_row}
use Rattle.rx_books_parcel.specs.contracts.footprint.Footprint.{the_row as footprint_row}
use Rattle.rx_books_parcel.specs.contracts.parcel.Parcel.{the_row as parcel_row}
use Rattle.rx_books_family.specs.contracts.place.FamilyPlace.{the_row as family_place_row}
use Rattle.rx_schedule.specs.contracts.queues.Queues.{the_row as queues_row}

pub open_books_sent : IsSend open_books_row
open_books_sent = search (sendable, crosses) depth 100 fits 300000

pub family_place_sent : IsSend family_place_row
family_place_sent = search (sendable, crosses) depth 100 fits 300000

pub amended_books_sent : IsSend amended_books_row
amended_books_sent = search (sendable, crosses, open_books_sent, family_place_sent) depth 100 fits 300000

pub form_sent : IsSend form_row
form_sent = search (sendable, crosses, open_books_sent, amended_books_sent) depth 100 fits 300000

pub books_sent : IsSend books_row
books_sent = search (sendable, crosses, open_books_sent, amended_books_sent) depth 100 fits 300000

pub shelf_sent : IsSend shelf_row
shelf_sent = search (sendable, crosses, open_books_sent, family_place_sent) depth 100 fits 300000

pub queues_sent : IsSend queues_row
queues_sent = search (sendable, crosses) depth 100 fits 300000

pub footprint_sent : IsSend footprint_row
footprint_sent = search (sendable, crosses) depth 100 fits 300000

pub family_sent : IsSend family_row
family_sent = search (sendable, crosses) depth 100 fits 300000

pub parcel_sent : IsSend parcel_row
parcel_sent = search (sendable, crosses, family_sent) depth 100 fits 300000

pub codes_sent : IsSend codes_row
codes_sent = search (sendable, crosses) depth 100 fits 300000

pub echo_sent : IsSend echo_row
echo_sent = search (sendable, crosses) depth 100 fits 300000

pub transactions_sent : IsSend transactions_row
transactions_sent = search (sendable, crosses, codes_sent) depth 100 fits 300000

pub transmission_sent : IsSend transmission_row
transmission_sent = search (sendable, crosses, transactions_sent, codes_sent, echo_sent) depth 100 fits 300000

pub answers_sent : IsSend answers_row
answers_sent = search (sendable, crosses, codes_sent) depth 100 fits 300000

pub reply_sent : IsSend reply_row
reply_sent = search (sendable, crosses, answers_sent, codes_sent, echo_sent) depth 100 fits 300000

pub state_sent : IsSend state_row
state_sent = search (sendable, crosses, parcel_sent) depth 100 fits 300000

pub desk_sent : IsSend desk_row
desk_sent = search (sendable, crosses, books_sent, shelf_sent, queues_sent, footprint_sent, transmission_sent, reply_sent, state_sent) depth
    100 fits 300000
