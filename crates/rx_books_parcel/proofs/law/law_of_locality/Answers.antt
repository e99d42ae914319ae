use Rattle.rx_books_parcel.proofs.Agreed.{cut_agrees}
use Rattle.rx_books_parcel.proofs.Locality.{local_books, local_fits, local_outside, local_reply, local_whole}
use Rattle.rx_books_parcel.proofs.law.law_of_locality.Goals as goal

pub returns-clause-reply : goal.returns-clause-reply
returns-clause-reply c = local_reply

pub returns-clause-inside : goal.returns-clause-inside
returns-clause-inside c = local_books

pub returns-clause-whole : goal.returns-clause-whole
returns-clause-whole c = local_whole

pub returns-clause-outside : goal.returns-clause-outside
returns-clause-outside c = local_outside

pub returns-clause-fitting : goal.returns-clause-fitting
returns-clause-fitting c = local_fits

pub returns-clause-agreed : goal.returns-clause-agreed
returns-clause-agreed c = cut_agrees
